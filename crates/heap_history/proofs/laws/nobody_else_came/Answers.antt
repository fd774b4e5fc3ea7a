use Rattle.heap_history.proofs.Alone.{nobody_else}
use Rattle.heap_history.proofs.laws.nobody_else_came.Goals as goal

pub returns : goal.returns
returns c = nobody_else
