use Rattle.heap_core.proofs.AsObject.{line_steps}
use Rattle.heap_core.proofs.object.CoreObject.act.Goals as goal

pub returns : goal.returns
returns c = line_steps _ _ _ _ _ c.requires c.in_range.ensures c.act.ensures.line
