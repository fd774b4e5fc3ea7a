use Rattle.heap_spec.proofs.Runs.{fresh_sound}
use Rattle.heap_spec.proofs.laws.runs_are_sound.Goals as goal

pub returns : goal.returns
returns c = fresh_sound
