use Rattle.heap_core.proofs.DirectStores.{writes_store}
use Rattle.heap_core.proofs.laws.writes_are_stores.Goals as goal

pub returns : goal.returns
returns c = writes_store
