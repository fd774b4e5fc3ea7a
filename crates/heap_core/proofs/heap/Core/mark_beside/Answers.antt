use Rattle.std.proofs.Common.{refl}
use Rattle.heap_core.proofs.BesideSteps.{traced_beside}
use Rattle.heap_core.proofs.Cycling.{stands_still}
use Rattle.heap_core.proofs.Legal.{legal_still}
use Rattle.heap_core.proofs.heap.Core.mark_beside.Goals as goal

pub mark_beside-beside-requires-clause-moments : goal.mark_beside-beside-requires-clause-moments
mark_beside-beside-requires-clause-moments c = rw (← c.self.view_is) at c.requires.moments

pub mark_beside-beside-requires-clause-beside : goal.mark_beside-beside-requires-clause-beside
mark_beside-beside-requires-clause-beside c = rw (← c.self.view_is) at c.requires.beside

pub invariant_of-self : goal.invariant_of-self
invariant_of-self c = legal_still _ _ c.self.invariant (traced_beside _ _ _ _ c.self.invariant.traced (rw (← c.self.view_is) at c.requires.moments) c.mark_beside-beside.ensures.traces)
    (λ s h. stands_still _ _ (c.self.invariant.traced.swept c.if-not-self.false) s h)

pub returns : goal.returns
returns c = rw (← c.self.view_is) (
  c.if-not-self.false,
  record {
    on = record { stands = λ s h. stands_still _ _ (c.self.invariant.traced.swept c.if-not-self.false) s h; alone = refl; traces = c.mark_beside-beside.ensures.traces };
    dirty = c.mark_beside-beside.ensures.dirty;
    most = c.mark_beside-beside.ensures.read;
    fewer = c.mark_beside-beside.ensures.fewer;
    takes = c.mark_beside-beside.ensures.takes;
  },
)
