use Rattle.heap_history.proofs.InTurn.{left_before}
use Rattle.heap_history.proofs.laws.left_before.Goals as goal

pub returns : goal.returns
returns c = left_before
