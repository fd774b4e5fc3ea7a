use Rattle.heap_history.proofs.Others.{looks_makes}
use Rattle.heap_history.proofs.laws.looks_then_makes.Goals as goal

pub returns : goal.returns
returns c = looks_makes
