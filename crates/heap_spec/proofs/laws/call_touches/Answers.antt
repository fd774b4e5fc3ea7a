use Rattle.heap_spec.proofs.Touching.{call_touches}
use Rattle.heap_spec.proofs.laws.call_touches.Goals as goal

pub returns : goal.returns
returns c = call_touches
