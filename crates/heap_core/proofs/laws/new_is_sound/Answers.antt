use Rattle.heap_core.proofs.Held.{new_sound}
use Rattle.heap_core.proofs.laws.new_is_sound.Goals as goal

pub returns : goal.returns
returns c = new_sound
