use Rattle.heap_spec.proofs.Touching.{store_touches_nothing}
use Rattle.heap_spec.proofs.laws.store_touches_nothing.Goals as goal

pub returns : goal.returns
returns c = store_touches_nothing
