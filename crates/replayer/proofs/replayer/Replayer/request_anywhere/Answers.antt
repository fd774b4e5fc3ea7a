use Rattle.std.proofs.Common.{ap}
use Rattle.replayer.specs.ReplayerContents.{ReplayerContents}
use Rattle.replayer.proofs.replayer.Replayer.request_anywhere.Goals as goal

pub returns-in_default : goal.returns-in_default
returns-in_default c = record {
  yes = λ done. c.refused_anywhere.ensures.yes done c.args.hint c.args.length;
  no = λ refused. c.refused_anywhere.ensures.no refused c.args.hint c.args.length;
  same = λ refused. c.refused_anywhere.ensures.same;
  origin = ap (λ (r : ReplayerContents). r.heap.origin) c.refused_anywhere.ensures.same;
}
