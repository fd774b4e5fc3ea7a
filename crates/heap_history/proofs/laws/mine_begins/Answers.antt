use Rattle.heap_history.proofs.Chains.{mine_begins}
use Rattle.heap_history.proofs.laws.mine_begins.Goals as goal

pub returns : goal.returns
returns c = mine_begins
