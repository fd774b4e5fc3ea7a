use Rattle.heap_core.proofs.AsObject.{line_stays}
use Rattle.heap_core.proofs.Following.{sweep_result}
use Rattle.heap_core.proofs.quiet.SweepQuietCore.run.Goals as goal

pub returns-clause-keeps : goal.returns-clause-keeps
returns-clause-keeps c = line_stays _ _ _ _ tt (sweep_result _ _ _ c.sweep.ensures)
