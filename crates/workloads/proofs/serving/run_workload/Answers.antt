use Rattle.workloads.specs.OneHistory.{HaveOneHistory}
use Rattle.workloads.proofs.Served.{no_room, printed}
use Rattle.workloads.proofs.serving.run_workload.Goals as goal

pub returns-in_default-clause-serves : goal.returns-in_default-clause-serves
returns-in_default-clause-serves g c input tells =
    no_room c.args.setting.now.pages input (g.R.Source.remaining c.read.new.reader) (g.W.Sink.written c.args.writer.now) c.in_ok-workload.workload (c.in_ok-workload.ensures.reads input tells)

pub returns-clause-serves : goal.returns-clause-serves
returns-clause-serves g c input tells =
    let one : HaveOneHistory c.args.setting.now.pages c.in_ok-workload.workload c.in-Ok.replies = c.in-Ok.ensures in
    printed c.args.setting.now.pages input (g.R.Source.remaining c.read.new.reader) (g.W.Sink.written c.args.writer.now) (g.W.Sink.written c.print_replies.new.writer) c.in_ok-workload.workload c.in-Ok.replies c.print_replies.result
    (c.in_ok-workload.ensures.reads input tells) one c.print_replies.ensures.ok c.print_replies.ensures.err c.print_replies.ensures.write
