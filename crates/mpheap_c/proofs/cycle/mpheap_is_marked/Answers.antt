use Rattle.std.proofs.Common.{refl}
use Rattle.mpheap_c.specs.Crossing.Holds.{held}
use Rattle.mpheap_c.proofs.cycle.mpheap_is_marked.Goals as goal

pub returns : goal.returns
returns c = held _ _ c.core.ensures.value refl (c.is_marked.ensures, refl)
