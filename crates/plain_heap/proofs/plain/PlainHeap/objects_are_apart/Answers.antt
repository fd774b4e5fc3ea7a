use Rattle.plain_heap.proofs.Flagging.{apart}
use Rattle.plain_heap.proofs.plain.PlainHeap.objects_are_apart.Goals as goal

pub returns : goal.returns
returns c = apart _ c.laws.ensures
