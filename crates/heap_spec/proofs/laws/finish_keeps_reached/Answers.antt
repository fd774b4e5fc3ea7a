use Rattle.heap_spec.proofs.Runs.{keeps_reached}
use Rattle.heap_spec.proofs.laws.finish_keeps_reached.Goals as goal

pub returns : goal.returns
returns c start run reply s' step = keeps_reached _ _ _ s' step.1.takes
