use Rattle.heap_core.proofs.Unreached.{unmarked_unreached}
use Rattle.heap_core.proofs.laws.unmarked_is_unreached.Goals as goal

pub returns : goal.returns
returns c = unmarked_unreached
