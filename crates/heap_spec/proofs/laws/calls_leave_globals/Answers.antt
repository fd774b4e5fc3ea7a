use Rattle.heap_spec.proofs.Shapes.{calls_leave_globals}
use Rattle.heap_spec.proofs.laws.calls_leave_globals.Goals as goal

pub returns : goal.returns
returns c = calls_leave_globals
