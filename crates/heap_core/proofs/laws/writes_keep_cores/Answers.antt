use Rattle.heap_core.proofs.DirectWrites.{writes_keep}
use Rattle.heap_core.proofs.laws.writes_keep_cores.Goals as goal

pub returns : goal.returns
returns c = writes_keep
