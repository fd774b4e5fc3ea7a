use Rattle.std.proofs.Common.{[]}
use Rattle.heap_core.proofs.Tracing.{traced_on}
use Rattle.heap_core.proofs.Cycling.{marks_more}
use Rattle.heap_core.proofs.Legal.{legal_on}
use Rattle.heap_core.proofs.heap.Core.mark.Goals as goal

pub invariant_of-self : goal.invariant_of-self
invariant_of-self c = legal_on _ _ c.self.invariant (traced_on _ _ _ _ c.self.invariant.traced c.mark-marked.ensures.traces) []
    (marks_more _ _ c.mark-marked.ensures.lawful.map (c.self.invariant.traced.swept c.if-not-self.false) c.mark-marked.ensures.traces)

pub returns : goal.returns
returns c = rw (← c.self.view_is) (
  c.if-not-self.false,
  record {
    marks = marks_more _ _ c.mark-marked.ensures.lawful.map (c.self.invariant.traced.swept c.if-not-self.false) c.mark-marked.ensures.traces;
    dirty = c.mark-marked.ensures.dirty;
    most = c.mark-marked.ensures.read;
    fewer = c.mark-marked.ensures.fewer;
    takes = c.mark-marked.ensures.takes;
    taken = c.mark-marked.ensures.taken;
  },
)
