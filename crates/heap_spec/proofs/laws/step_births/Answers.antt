use Rattle.heap_spec.proofs.Births.{step_births}
use Rattle.heap_spec.proofs.laws.step_births.Goals as goal

pub returns : goal.returns
returns c = step_births
