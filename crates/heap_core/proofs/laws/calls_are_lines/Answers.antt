use Rattle.heap_core.proofs.Following.{no_lines}
use Rattle.heap_core.proofs.Straight.{calls_lines}
use Rattle.heap_core.proofs.laws.calls_are_lines.Goals as goal

pub returns : goal.returns
returns c = record { none = no_lines; more = calls_lines }
