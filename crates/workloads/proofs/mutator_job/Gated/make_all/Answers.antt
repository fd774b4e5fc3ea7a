use Rattle.std.proofs.Common.{◌∙◌}
use Rattle.std.proofs.Math.ListN.{length-set}
use Rattle.workloads.proofs.Called.{called_more}
use Rattle.workloads.proofs.mutator_job.Gated.make_all.Goals as goal

pub loop-i-preserved : goal.loop-i-preserved
loop-i-preserved g c =
    let was = c.loop-i.invariant in let r = c.make.result in record {
      room = length-set c.loop-i.replies c.loop-i.i r ∙ was.room;
      called = called_more g.J.Naming.origin c.args.me.now c.loop-i.me c.make.new.me c.args.calls.now c.loop-i.replies c.loop-i.i c.index-calls-i.result r c.index-calls-i.is c.loop-i-test.true was.room was.called c.make.ensures;
    }
