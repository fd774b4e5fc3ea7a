use Rattle.std.proofs.Common.{refl}
use Rattle.heap_core.proofs.heap.Core.serve.Goals as goal

pub returns-in-Attach : goal.returns-in-Attach
returns-in-Attach c = rw (c.in-Attach.is, c.slot_of.ensures) c.attach.ensures

pub returns-in-Mutator : goal.returns-in-Mutator
returns-in-Mutator c = rw c.in-Mutator.is c.serve_call.ensures

pub returns-in-Begin : goal.returns-in-Begin
returns-in-Begin c = rw c.in-Begin.is (_, c.done.ensures, c.begin.ensures)

pub returns-in-Roots : goal.returns-in-Roots
returns-in-Roots c = rw c.in-Roots.is (_, c.done-in-Roots.ensures, c.roots.ensures)

pub returns-in-Mark : goal.returns-in-Mark
returns-in-Mark c = rw c.in-Mark.is (_, c.count.ensures, c.mark.ensures)

pub returns-in-Retrace : goal.returns-in-Retrace
returns-in-Retrace c = rw c.in-Retrace.is (_, c.count-in-Retrace.ensures, c.retrace.ensures)

pub returns-in-Finish : goal.returns-in-Finish
returns-in-Finish c = rw c.in-Finish.is (_, c.count-in-Finish.ensures, c.finish.ensures)

pub returns-in-Sweep : goal.returns-in-Sweep
returns-in-Sweep c = rw c.in-Sweep.is (_, c.count-in-Sweep.ensures, c.sweep.ensures)

pub returns-in-Collect : goal.returns-in-Collect
returns-in-Collect c = rw c.in-Collect.is (_, c.count-in-Collect.ensures, c.collect.ensures)

pub returns-in-Number : goal.returns-in-Number
returns-in-Number c = rw (c.in-Number.is, c.gc_no.ensures) (refl, refl)

pub returns-in-BeginPartial : goal.returns-in-BeginPartial
returns-in-BeginPartial c = rw c.in-BeginPartial.is (_, c.done-in-BeginPartial.ensures, c.begin_partial.ensures)
