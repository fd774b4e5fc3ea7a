use Rattle.std.proofs.Common.{◌-◌, ◌≤◌}
use Rattle.final_pause.specs.Pauses.{pause_view}
use Rattle.final_pause.specs.Helping.{ReadsWords}
use Rattle.final_pause.proofs.share.Pause.read_words.Given as goal

abbrev pub invariant-loop-done : goal.invariant-loop-done
invariant-loop-done g l = record {
  reads : ReadsWords (pause_view l.self) l.piece.found l.piece.first l.done l.fn.helper l.helper;
  within : l.done ≤ l.piece.count;
}

abbrev pub decreases-loop-done : goal.decreases-loop-done
decreases-loop-done g l = l.piece.count - l.done
