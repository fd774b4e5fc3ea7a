use Rattle.std.proofs.Common.{[]}
use Rattle.test_marking.proofs.Marked.{traced}
use Rattle.test_marking.proofs.heap.Heap.retrace.Goals as goal

pub invariant_of-self : goal.invariant_of-self
invariant_of-self c = traced _ _ [] _ _ c.self.invariant (rw (← c.new-reader.ensures.words) c.retrace-page.ensures.traces)
