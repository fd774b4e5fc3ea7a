use Rattle.object_space.proofs.Searching.{finds_place}
use Rattle.lazy_sweep.proofs.Swept.{sweeps_none}
use Rattle.object_space.proofs.space.ObjectSpace.place.Goals as goal

pub returns-in-Large : goal.returns-in-Large
returns-in-Large c = rw c.in-Large.is (finds_place _ _ _ _ _ _ _ (sweeps_none _ _ c.laws.ensures.lawful.map) c.take_run.ensures.some c.take_run.ensures.gains c.take_run.ensures.none)
