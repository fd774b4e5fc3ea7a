use Rattle.heap_core.proofs.BesideSteps.{written_after}
use Rattle.heap_core.proofs.laws.written_beside_is_written_after.Goals as goal

pub returns : goal.returns
returns c = written_after
