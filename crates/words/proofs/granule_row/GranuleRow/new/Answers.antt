use Rattle.words.proofs.Rows.{bits_zero_4, from_replicate}
use Rattle.words.proofs.granule_row.GranuleRow.new.Goals as goal

pub returns : goal.returns
returns c = from_replicate _ _ (bits_zero_4 _)
