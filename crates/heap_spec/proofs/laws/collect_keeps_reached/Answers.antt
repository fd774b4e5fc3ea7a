use Rattle.heap_spec.proofs.Runs.{keeps_reached, only_reached}
use Rattle.heap_spec.proofs.laws.collect_keeps_reached.Goals as goal

pub returns : goal.returns
returns c start run reply s' step = (keeps_reached _ _ _ s' step.takes, only_reached _ reply s' step)
