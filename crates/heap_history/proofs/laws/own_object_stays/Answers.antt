use Rattle.heap_history.proofs.Owning.{stays}
use Rattle.heap_history.proofs.laws.own_object_stays.Goals as goal

pub returns : goal.returns
returns c = stays
