use Rattle.heap_spec.proofs.Outcomes.{calls_same}
use Rattle.heap_spec.proofs.laws.calls_have_one_outcome.Goals as goal

pub returns : goal.returns
returns c = calls_same
