use Rattle.std.proofs.Common.{arith}
use Rattle.test_marking.proofs.Marked.{taken_there}
use Rattle.test_marking.proofs.heap.Heap.allocate.Goals as goal

pub receive-requires-clause-object : goal.receive-requires-clause-object
receive-requires-clause-object c = taken_there c.self.inside.map _ c.args.page _ _ c.len.ensures.laid (omega arith) c.in-Some.ensures c.in-Some-take.ensures.object c.in-Some-take.ensures.added
