use Rattle.heap_spec.proofs.Touching.{sound_apart}
use Rattle.heap_spec.proofs.laws.sound_objects_are_apart.Goals as goal

pub returns : goal.returns
returns c = sound_apart
