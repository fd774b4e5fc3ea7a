use Rattle.heap_spec.proofs.Touching.{root_touches_nothing}
use Rattle.heap_spec.proofs.laws.root_touches_nothing.Goals as goal

pub returns : goal.returns
returns c = root_touches_nothing
