use Rattle.heap_history.proofs.Loaded.{own_load}
use Rattle.heap_history.proofs.laws.own_load_answers.Goals as goal

pub returns : goal.returns
returns c = own_load
