use Rattle.heap_core.proofs.Held.{acts_sound}
use Rattle.heap_core.proofs.laws.acts_keep_sound.Goals as goal

pub returns : goal.returns
returns c = acts_sound
