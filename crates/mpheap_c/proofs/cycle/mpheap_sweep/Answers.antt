use Rattle.std.proofs.Common.{refl}
use Rattle.mpheap_c.specs.Crossing.Holds.{held}
use Rattle.mpheap_c.proofs.cycle.mpheap_sweep.Goals as goal

pub returns : goal.returns
returns c = held _ _ c.core.ensures.value refl (c.sweep.result, c.word_to.ensures, c.sweep.ensures)
