use Rattle.words.proofs.Rows.{length-bits}
use Rattle.dirty_pages.proofs.Pages.{zeros_clear}
use Rattle.dirty_pages.proofs.row.SummedRow.clear_all.Goals as goal

pub returns : goal.returns
returns c = rw (← c.self.view_is, length-bits) (zeros_clear _ _ _ c.clear_all.ensures)
