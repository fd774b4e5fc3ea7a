use Rattle.heap_spec.proofs.Runs.{fresh_touched_reached}
use Rattle.heap_spec.proofs.laws.touched_holds_reached.Goals as goal

pub returns : goal.returns
returns c = fresh_touched_reached
