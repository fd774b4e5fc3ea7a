use Rattle.replayer.proofs.Nexts.{one_next}
use Rattle.replayer.proofs.laws.replays_have_one_next.Goals as goal

pub returns : goal.returns
returns c = one_next
