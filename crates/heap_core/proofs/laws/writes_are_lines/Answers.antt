use Rattle.heap_core.proofs.DirectLines.{writes_line}
use Rattle.heap_core.proofs.laws.writes_are_lines.Goals as goal

pub returns : goal.returns
returns c = writes_line
