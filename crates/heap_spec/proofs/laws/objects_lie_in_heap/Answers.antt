use Rattle.heap_spec.proofs.Objects.{object_lies}
use Rattle.heap_spec.proofs.laws.objects_lie_in_heap.Goals as goal

pub returns : goal.returns
returns c = object_lies
