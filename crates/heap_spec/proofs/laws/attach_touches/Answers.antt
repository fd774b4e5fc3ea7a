use Rattle.heap_spec.proofs.Touching.{attach_touches}
use Rattle.heap_spec.proofs.laws.attach_touches.Goals as goal

pub returns : goal.returns
returns c = attach_touches
