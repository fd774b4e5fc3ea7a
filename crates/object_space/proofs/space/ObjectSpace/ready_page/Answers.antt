use Rattle.std.proofs.Common.{refl}
use Rattle.lazy_sweep.specs.Sound.{store_with}
use Rattle.object_space.proofs.Many.{none_ready}
use Rattle.object_space.proofs.space.ObjectSpace.ready_page.Goals as goal

pub returns-in_default-clause-none : goal.returns-in_default-clause-none
returns-in_default-clause-none c = (rw (← c.self.view_is) (none_ready _ (store_with c.self.inside.memory c.self.inside.table) _ _ c.self.invariant.exact c.first.ensures.listed c.in_default.ensures.page), refl)
