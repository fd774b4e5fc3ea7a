use Rattle.heap_history.proofs.Owning.{apart}
use Rattle.heap_history.proofs.laws.own_objects_apart.Goals as goal

pub returns : goal.returns
returns c = apart
