use Rattle.std.proofs.Common.{true}
use Rattle.lazy_sweep.proofs.AvailableRows.{bit_set}
use Rattle.lazy_sweep.proofs.available_pages.AvailablePages.enter.Goals as goal

pub returns : goal.returns
returns c = rw (← c.self.view_is) (bit_set _ _ _ _ _ _ true c.row_number.ensures.listed c.row_number.ensures.number (rw (← c.self.view_is) at c.requires) c.set_bit.ensures.rows)
