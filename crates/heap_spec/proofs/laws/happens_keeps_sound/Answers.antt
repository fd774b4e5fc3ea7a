use Rattle.heap_spec.proofs.Runs.{happens_kept}
use Rattle.heap_spec.proofs.laws.happens_keeps_sound.Goals as goal

pub returns : goal.returns
returns c = happens_kept
