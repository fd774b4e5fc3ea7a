use Rattle.test_marking.proofs.Marked.{traced}
use Rattle.test_marking.proofs.heap.Heap.close_with.Goals as goal

pub invariant_of-self : goal.invariant_of-self
invariant_of-self g c = traced _ _ c.args.roots.now _ _ c.self.invariant c.close_marks_with.ensures.traces
