use Rattle.std.proofs.Common.{refl, ap}
use Rattle.marker.specs.Marking.{Marking}
use Rattle.heap_core.specs.CoreContents.{CoreContents}
use Rattle.heap_core.specs.BesideSteps.{not_dirty, again}
use Rattle.heap_core.proofs.BesideSteps.{traced_beside}
use Rattle.heap_core.proofs.Cycling.{stands_still}
use Rattle.heap_core.proofs.Legal.{legal_still}
use Rattle.heap_core.proofs.heap.Core.retrace_page_beside.Goals as goal

pub retrace_page_beside-requires-clause-moments : goal.retrace_page_beside-requires-clause-moments
retrace_page_beside-requires-clause-moments c = rw (← c.self.view_is) at c.requires.moments

pub retrace_page_beside-requires-clause-beside : goal.retrace_page_beside-requires-clause-beside
retrace_page_beside-requires-clause-beside c = rw (← c.self.view_is) at c.requires.beside

pub retrace_page_beside-requires-clause-still : goal.retrace_page_beside-requires-clause-still
retrace_page_beside-requires-clause-still c = rw (← c.self.view_is) at c.requires.still

pub returns-then-not-retrace_page_beside : goal.returns-then-not-retrace_page_beside
returns-then-not-retrace_page_beside c =
    let with_marks : Marking → CoreContents = λ m. record { roots = c.self.inside.roots; store = c.self.inside.objects; cycle = record { marker = m; is_marking = c.self.inside.is_marking; needs_full = c.self.inside.needs_full; count = c.self.inside.count; reads = c.self.inside.reads }; links = c.self.inside.links } in
    rw (← c.self.view_is) (
      c.if-not-self.false,
      record {
        on = record { stands = λ s h. stands_still _ _ (c.self.invariant.traced.swept c.if-not-self.false) s h; alone = refl; traces = c.retrace_page_beside.ensures.traces };
        reads = not_dirty (c.if-not-retrace_page_beside.ensures.clean refl).0 (ap with_marks (c.if-not-retrace_page_beside.ensures.clean refl).1);
      },
    )

pub invariant_of-self : goal.invariant_of-self
invariant_of-self c = legal_still _ _ c.self.invariant (traced_beside _ _ _ _ c.self.invariant.traced (rw (← c.self.view_is) at c.requires.moments) c.retrace_page_beside.ensures.traces)
    (λ s h. stands_still _ _ (c.self.invariant.traced.swept c.if-not-self.false) s h)

pub invariant_of-self-2 : goal.invariant_of-self-2
invariant_of-self-2 c = legal_still _ _ c.self.invariant (traced_beside _ _ _ _ c.self.invariant.traced (rw (← c.self.view_is) at c.requires.moments) c.retrace_page_beside.ensures.traces)
    (λ s h. stands_still _ _ (c.self.invariant.traced.swept c.if-not-self.false) s h)

pub returns : goal.returns
returns c = rw (← c.self.view_is) (
  c.if-not-self.false,
  record {
    on = record { stands = λ s h. stands_still _ _ (c.self.invariant.traced.swept c.if-not-self.false) s h; alone = refl; traces = c.retrace_page_beside.ensures.traces };
    reads = again (c.if-not-retrace_page_beside.ensures.page refl);
  },
)
