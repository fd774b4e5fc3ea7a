use Rattle.heap_core.proofs.DirectTold.{told_written}
use Rattle.heap_core.proofs.laws.told_may_be_written.Goals as goal

pub returns : goal.returns
returns c = told_written
