use Rattle.lazy_sweep.specs.Sound.{store_with}
use Rattle.object_space.proofs.Opening.{opens}
use Rattle.object_space.proofs.Pending.{swept_row}
use Rattle.object_space.proofs.space.ObjectSpace.new.Goals as goal

pub returns : goal.returns
returns c = (c.in_ok-table.ensures.0, (swept_row _ _ c.in_ok-table.ensures.1.pending, opens (store_with c.in_ok-memory.memory c.in_ok-table.table) _ c.in_ok-table.ensures.1.map c.in_ok-table.ensures.0.1))
