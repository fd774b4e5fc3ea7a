use Rattle.heap_core.proofs.AsObject.{line_stays}
use Rattle.heap_core.proofs.Following.{mark_result}
use Rattle.heap_core.proofs.quiet.MarkQuietCore.run.Goals as goal

pub returns-clause-keeps : goal.returns-clause-keeps
returns-clause-keeps c = line_stays _ _ _ _ tt (mark_result _ _ _ _ c.mark.ensures)
