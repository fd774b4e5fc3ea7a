use Rattle.final_pause.specs.Pauses.{pause_view}
use Rattle.final_pause.specs.Helping.{reads_left}
use Rattle.final_pause.specs.Serving.{GoesOnServing}
use Rattle.final_pause.proofs.share.Pause.read_waiting.Given as goal

abbrev pub invariant-loop-unread : goal.invariant-loop-unread
invariant-loop-unread g l = GoesOnServing (pause_view l.self) l.fn.helper l.helper

abbrev pub decreases-loop-unread : goal.decreases-loop-unread
decreases-loop-unread g l = reads_left (pause_view l.self) l.helper
