use Rattle.lazy_sweep.proofs.AvailableRows.{number_normal, number_pointer_free}
use Rattle.lazy_sweep.proofs.available_pages.row_number.Goals as goal

pub returns-in-Normal-clause-number : goal.returns-in-Normal-clause-number
returns-in-Normal-clause-number c = rw c.in-Normal.is (number_normal _ _ c.index-first.ensures)

pub returns-in-PointerFree-clause-number : goal.returns-in-PointerFree-clause-number
returns-in-PointerFree-clause-number c = rw c.in-PointerFree.is (number_pointer_free _ _ c.index-first.ensures)
