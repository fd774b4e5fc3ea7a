use Rattle.heap_spec.proofs.Shapes.{calls_leave_registers}
use Rattle.heap_spec.proofs.laws.calls_leave_registers.Goals as goal

pub returns : goal.returns
returns c = calls_leave_registers
