use Rattle.heap_core.proofs.AsObject.{line_stays}
use Rattle.heap_core.proofs.Following.{roots_result}
use Rattle.heap_core.proofs.quiet.RootsQuietCore.run.Goals as goal

pub returns-clause-keeps : goal.returns-clause-keeps
returns-clause-keeps c = line_stays _ _ _ _ tt (roots_result _ _ _ c.roots.ensures)
