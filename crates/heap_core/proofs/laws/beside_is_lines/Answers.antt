use Rattle.heap_core.proofs.BesideSteps.{beside_line}
use Rattle.heap_core.proofs.laws.beside_is_lines.Goals as goal

pub returns : goal.returns
returns c = beside_line
