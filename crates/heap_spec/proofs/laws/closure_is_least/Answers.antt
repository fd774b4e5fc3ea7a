use Rattle.heap_spec.proofs.Closures.{closure_keeps, closure_least}
use Rattle.heap_spec.proofs.laws.closure_is_least.Goals as goal

pub returns : goal.returns
returns c = record { keeps = λ s births. closure_keeps s _; least = λ s births bases k base. closure_least s _ _ k }
