use Rattle.heap_spec.proofs.Closures.{closure_mono}
use Rattle.heap_spec.proofs.laws.closure_is_monotone.Goals as goal

pub returns : goal.returns
returns c s births more f base = closure_mono s _ _ f
