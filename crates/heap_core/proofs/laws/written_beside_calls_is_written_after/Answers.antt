use Rattle.heap_core.proofs.BesideCalls.{written_beside}
use Rattle.heap_core.proofs.laws.written_beside_calls_is_written_after.Goals as goal

pub returns : goal.returns
returns c = written_beside
