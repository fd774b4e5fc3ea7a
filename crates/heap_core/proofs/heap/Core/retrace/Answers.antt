use Rattle.std.proofs.Common.{[], ap}
use Rattle.marker.specs.Marking.{Marking}
use Rattle.heap_core.specs.CoreContents.{CoreContents}
use Rattle.heap_core.specs.Collections.{none, page}
use Rattle.heap_core.proofs.Tracing.{traced_on}
use Rattle.heap_core.proofs.Cycling.{marks_more}
use Rattle.heap_core.proofs.Legal.{legal_on}
use Rattle.heap_core.proofs.heap.Core.retrace.Goals as goal

pub returns-in_default : goal.returns-in_default
returns-in_default c =
    let with_marks : Marking → CoreContents = λ m. record { roots = c.self.inside.roots; store = c.self.inside.objects; cycle = record { marker = m; is_marking = c.self.inside.is_marking; needs_full = c.self.inside.needs_full; count = c.self.inside.count; reads = c.self.inside.reads }; links = c.self.inside.links } in
    rw (← c.self.view_is) (
      c.if-not-self.false,
      record {
        marks = marks_more _ _ c.retrace.ensures.lawful.map (c.self.invariant.traced.swept c.if-not-self.false) c.retrace.ensures.traces;
        reads = none c.in_default.ensures.page.0 (ap with_marks c.in_default.ensures.page.1);
      },
    )

pub invariant_of-self : goal.invariant_of-self
invariant_of-self c = legal_on _ _ c.self.invariant (traced_on _ _ _ _ c.self.invariant.traced c.retrace.ensures.traces) []
    (marks_more _ _ c.retrace.ensures.lawful.map (c.self.invariant.traced.swept c.if-not-self.false) c.retrace.ensures.traces)

pub invariant_of-self-2 : goal.invariant_of-self-2
invariant_of-self-2 c = legal_on _ _ c.self.invariant (traced_on _ _ _ _ c.self.invariant.traced c.retrace.ensures.traces) []
    (marks_more _ _ c.retrace.ensures.lawful.map (c.self.invariant.traced.swept c.if-not-self.false) c.retrace.ensures.traces)

pub returns : goal.returns
returns c = rw (← c.self.view_is) (
  c.if-not-self.false,
  record {
    marks = marks_more _ _ c.retrace.ensures.lawful.map (c.self.invariant.traced.swept c.if-not-self.false) c.retrace.ensures.traces;
    reads = page c.in-Some.field-0 c.in-Some.ensures.page;
  },
)
