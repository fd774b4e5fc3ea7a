use Rattle.heap_history.proofs.Legal.{seen_is_legal}
use Rattle.heap_history.proofs.laws.seen_is_legal.Goals as goal

pub returns : goal.returns
returns c = seen_is_legal
