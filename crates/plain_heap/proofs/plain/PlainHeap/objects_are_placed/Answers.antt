use Rattle.plain_heap.proofs.Placed.{are_placed}
use Rattle.plain_heap.proofs.plain.PlainHeap.objects_are_placed.Goals as goal

pub returns : goal.returns
returns c = are_placed _ c.laws.ensures
