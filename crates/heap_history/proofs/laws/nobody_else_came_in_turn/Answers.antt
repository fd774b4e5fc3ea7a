use Rattle.heap_history.proofs.InTurn.{nobody_else}
use Rattle.heap_history.proofs.laws.nobody_else_came_in_turn.Goals as goal

pub returns : goal.returns
returns c = nobody_else
