use Rattle.std.proofs.Common.{refl}
use Rattle.workloads.proofs.Collected.{begins, begins_partly, finishes, numbers, roots, marking, retraces, sweeps}
use Rattle.workloads.proofs.collector_job.GatedHeap.command.Goals as goal

pub returns-in-Begin : goal.returns-in-Begin
returns-in-Begin g c = begins g.J.Naming.origin c.args.me.now c.begin.new.me c.args.command c.done.result c.requires.slot c.begin.result c.in-Begin.is c.done.ensures c.begin.ensures

pub returns-in-BeginPartial : goal.returns-in-BeginPartial
returns-in-BeginPartial g c = begins_partly g.J.Naming.origin c.args.me.now c.begin_partial.new.me c.args.command c.done-in-BeginPartial.result c.requires.slot c.begin_partial.result c.in-BeginPartial.is c.done-in-BeginPartial.ensures c.begin_partial.ensures

pub returns-in-Roots : goal.returns-in-Roots
returns-in-Roots g c =
    let gives = c.quiet.ensures.gives in
    roots g.J.Naming.origin c.args.me.now c.quiet.new.me c.args.command c.done-in-Roots.result c.requires.slot c.quiet.ensures.looks gives.0 gives.1 gives.3 gives.4 c.quiet.result c.in-Roots.is c.done-in-Roots.ensures gives.2

pub returns-in-Mark : goal.returns-in-Mark
returns-in-Mark g c =
    let gives = c.quiet-in-Mark.ensures.gives in
    marking g.J.Naming.origin c.args.me.now c.quiet-in-Mark.new.me c.args.command c.count.result c.requires.slot c.quiet-in-Mark.ensures.looks gives.0 gives.1 gives.3 gives.4 c.in-Mark.most c.quiet-in-Mark.result c.in-Mark.is c.count.ensures gives.2.1

pub returns-in-Retrace : goal.returns-in-Retrace
returns-in-Retrace g c =
    let gives = c.quiet-in-Retrace.ensures.gives in
    retraces g.J.Naming.origin c.args.me.now c.quiet-in-Retrace.new.me c.args.command c.count-in-Retrace.result c.requires.slot c.quiet-in-Retrace.ensures.looks gives.0 gives.1 gives.3 gives.4 c.quiet-in-Retrace.result c.in-Retrace.is c.count-in-Retrace.ensures gives.2

pub returns-in-Finish : goal.returns-in-Finish
returns-in-Finish g c = finishes g.J.Naming.origin c.args.me.now c.finish_with.new.me c.args.command c.count-in-Finish.result c.requires.slot c.finish_with.result c.in-Finish.is c.count-in-Finish.ensures c.finish_with.ensures

pub returns-in-Sweep : goal.returns-in-Sweep
returns-in-Sweep g c =
    let gives = c.quiet-in-Sweep.ensures.gives in
    sweeps g.J.Naming.origin c.args.me.now c.quiet-in-Sweep.new.me c.args.command c.count-in-Sweep.result c.requires.slot c.quiet-in-Sweep.ensures.looks gives.0 gives.1 gives.3 gives.4 c.quiet-in-Sweep.result c.in-Sweep.is c.count-in-Sweep.ensures gives.2

pub returns-in-Number : goal.returns-in-Number
returns-in-Number g c = numbers g.J.Naming.origin c.args.me.now c.gc_no_of.new.collector c.args.command _ c.requires.slot c.gc_no_of.result c.in-Number.is refl c.gc_no_of.ensures.looks c.gc_no_of.ensures.count
