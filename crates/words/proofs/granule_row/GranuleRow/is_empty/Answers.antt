use Rattle.std.proofs.Common.{arith}
use Rattle.words.proofs.Scans.{any_of_row}
use Rattle.words.proofs.granule_row.GranuleRow.is_empty.Goals as goal

pub returns : goal.returns
returns c = rw (← c.self.view_is) (any_of_row _ _ _ (omega (arith, c.self.told)) c.first_from.ensures)
