use Rattle.heap_core.proofs.Acting.{act_line}
use Rattle.heap_core.proofs.heap.Core.act.Goals as goal

pub returns-clause-line : goal.returns-clause-line
returns-clause-line c = act_line _ _ _ _ c.laws.ensures.lawful c.serve.ensures
