use Rattle.heap_core.proofs.DirectLines.{writes_visit}
use Rattle.heap_core.proofs.laws.writes_are_visits.Goals as goal

pub returns : goal.returns
returns c = writes_visit
