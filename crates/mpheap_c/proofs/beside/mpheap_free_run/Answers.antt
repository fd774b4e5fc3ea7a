use Rattle.std.proofs.Common.{refl}
use Rattle.mpheap_c.specs.Crossing.Holds.{held}
use Rattle.mpheap_c.specs.Crossing.TellsFreeRun.{found, nothing}
use Rattle.mpheap_c.proofs.beside.mpheap_free_run.Goals as goal

pub returns-in-Some : goal.returns-in-Some
returns-in-Some c = held _ _ c.core.ensures.value refl (found c.in-Some.ensures refl refl)

pub returns-in-None : goal.returns-in-None
returns-in-None c = held _ _ c.core.ensures.value refl (nothing c.in-None.ensures refl refl refl refl)
