use Rattle.std.proofs.Common.{refl}
use Rattle.mpheap_c.specs.Crossing.Holds.{held}
use Rattle.mpheap_c.proofs.registers.mpheap_attach.Goals as goal

pub returns : goal.returns
returns c = held _ _ c.core.ensures.value refl (c.attach.result, c.slot_to.ensures, c.attach.ensures)
