use Rattle.heap_history.proofs.Counting.{count_grows}
use Rattle.heap_history.proofs.laws.count_grows.Goals as goal

pub returns : goal.returns
returns c = count_grows
