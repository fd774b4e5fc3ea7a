use Rattle.heap_spec.proofs.Outcomes.{calls_refused}
use Rattle.heap_spec.proofs.laws.refused_changes_nothing.Goals as goal

pub returns : goal.returns
returns c s slot call why s' refused = calls_refused s slot call refused
