use Rattle.heap_spec.proofs.Closures.{in_idem, in_closure}
use Rattle.heap_spec.proofs.laws.closure_is_idempotent.Goals as goal

pub returns : goal.returns
returns c s births d birth = (in_idem s _ d birth, in_closure s _ birth)
