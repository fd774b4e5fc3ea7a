use Rattle.words.proofs.Counts.{row_counted}
use Rattle.words.proofs.granule_row.GranuleRow.count.Goals as goal

pub returns : goal.returns
returns c = rw (← c.self.view_is) (row_counted _ _ _ c.ones_of.ensures)
