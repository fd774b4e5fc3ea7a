use Rattle.std.proofs.Common.{◌≡◌, ◌≤◌}
use Rattle.mark_bits.specs.Tables.{view}
use Rattle.final_pause.specs.Dealing.{rank}
use Rattle.final_pause.specs.Pauses.{pause_view}
use Rattle.final_pause.specs.Serving.{GoesOnServing, ArePagesRead}
use Rattle.final_pause.proofs.share.Pause.read_pages.Given as goal

abbrev pub invariant-loop-page : goal.invariant-loop-page
invariant-loop-page g l = record {
  serves : GoesOnServing (pause_view l.self) l.fn.helper l.helper;
  read : ArePagesRead (pause_view l.self) (view l.helper.claimer) l.helper.carried l.fn.helper.place l.page;
  count : l.number ≡ rank l.self.marker.now.dirty l.page;
  few : l.number ≤ l.page;
}
