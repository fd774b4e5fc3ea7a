use Rattle.heap_spec.proofs.PartialCycles.{untouched_young}
use Rattle.heap_spec.proofs.laws.untouched_are_young.Goals as goal

pub returns : goal.returns
returns c = untouched_young
