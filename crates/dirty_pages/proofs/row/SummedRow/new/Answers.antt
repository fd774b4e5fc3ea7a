use Rattle.dirty_pages.proofs.Pages.{zeros_clear}
use Rattle.dirty_pages.proofs.row.SummedRow.new.Goals as goal

pub returns : goal.returns
returns c = zeros_clear _ _ _ c.in_ok-words.ensures
