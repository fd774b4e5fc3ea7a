use Rattle.std.proofs.Common.{◌∙◌}
use Rattle.std.proofs.Math.ListN.{length-set}
use Rattle.workloads.proofs.Collected.{commanded_more}
use Rattle.workloads.proofs.collector_job.GatedHeap.give_all.Goals as goal

pub loop-i-preserved : goal.loop-i-preserved
loop-i-preserved g c =
    let was = c.loop-i.invariant in let r = c.give.result in record {
      room = length-set c.loop-i.replies c.loop-i.i r ∙ was.room;
      commanded = commanded_more g.J.Naming.origin c.args.me.now c.loop-i.me c.give.new.me c.args.commands.now c.loop-i.replies c.loop-i.i c.index-commands-i.result r c.index-commands-i.is c.loop-i-test.true was.room was.commanded c.give.ensures;
    }
