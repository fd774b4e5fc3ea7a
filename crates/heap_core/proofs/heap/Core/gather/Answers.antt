use Rattle.std.proofs.Common.{[], ap, ◌∙◌}
use Rattle.heap_core.specs.CoreContents.{CoreContents}
use Rattle.heap_core.proofs.Tracing.{traced_on}
use Rattle.heap_core.proofs.Cycling.{marks_more}
use Rattle.heap_core.proofs.Legal.{legal_on}
use Rattle.heap_core.proofs.heap.Core.gather.Goals as goal

pub invariant_of-self : goal.invariant_of-self
invariant_of-self c = legal_on _ _ c.self.invariant (traced_on _ _ _ _ c.self.invariant.traced c.gather.ensures.traces) []
    (marks_more _ _ c.gather.ensures.lawful.map (c.self.invariant.traced.swept (ap (λ (x : CoreContents). x.cycle.is_marking) c.self.view_is ∙ c.requires.marking)) c.gather.ensures.traces)

pub returns : goal.returns
returns c = rw (← c.self.view_is) (record {
  marks = marks_more _ _ c.gather.ensures.lawful.map (c.self.invariant.traced.swept (ap (λ (x : CoreContents). x.cycle.is_marking) c.self.view_is ∙ c.requires.marking)) c.gather.ensures.traces;
  empty = c.gather.ensures.empty;
  dirty = c.gather.ensures.dirty;
})
