use Rattle.heap_spec.proofs.Runs.{fresh_touched_closed}
use Rattle.heap_spec.proofs.laws.touched_is_closed.Goals as goal

pub returns : goal.returns
returns c = fresh_touched_closed
