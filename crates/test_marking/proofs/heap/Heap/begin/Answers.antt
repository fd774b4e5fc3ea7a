use Rattle.std.proofs.Common.{arith}
use Rattle.test_marking.proofs.heap.Heap.begin.Goals as goal

-- all pages are named, so no mark is past them
pub begin-requires-clause-unmarked : goal.begin-requires-clause-unmarked
begin-requires-clause-unmarked c k past inside = absurd (let marks = c.laws.ensures.marks in let pages = c.self.invariant.pages in let len = c.len.ensures.len in omega arith)
