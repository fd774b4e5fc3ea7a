use Rattle.std.proofs.Common.{refl}
use Rattle.heap_core.proofs.Tracing.{traced_told}
use Rattle.heap_core.proofs.Legal.{legal_still, told_stands}
use Rattle.heap_core.proofs.heap.Core.written.Goals as goal

pub invariant_of-self : goal.invariant_of-self
invariant_of-self c = legal_still _ _ c.self.invariant
    (traced_told _ (record { marker = c.self.inside.marker; is_marking = c.self.inside.is_marking; needs_full = c.self.inside.needs_full; count = c.self.inside.count; reads = c.self.inside.reads }) _ _ c.self.invariant.traced c.note_write.ensures refl refl)
    (told_stands _ _ _ _ _ c.note_write.ensures.marks)
