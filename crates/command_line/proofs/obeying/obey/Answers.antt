use Rattle.command_line.proofs.Stressing.{stressed}
use Rattle.command_line.proofs.obeying.obey.Goals as goal

pub returns-in-Stress : goal.returns-in-Stress
returns-in-Stress g c =
    stressed g.I.Source.remaining g.R.File.Read.remaining g.O.Sink.written g.I.Source.faults g.O.Sink.faults c.args.request.now c.in-Stress.seed c.in-Stress.mutators c.in-Stress.steps c.in-Stress.is c.args.input.now c.args.output.now c.stress.new.output c.stress.result c.stress.ensures.does c.stress.ensures.wrote
