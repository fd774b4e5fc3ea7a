use Rattle.std.proofs.Common.{◌-◌, length}
use Rattle.mark_bits.specs.Tables.{view}
use Rattle.marker.specs.Marking.{entries}
use Rattle.final_pause.specs.Pauses.{pause_view}
use Rattle.final_pause.specs.Serving.{GoesOnServing, AreEntriesRead}
use Rattle.final_pause.proofs.share.Pause.read_entries.Given as goal

abbrev pub invariant-loop-entry : goal.invariant-loop-entry
invariant-loop-entry g l =
    GoesOnServing (pause_view l.self) l.fn.helper l.helper
    × AreEntriesRead (pause_view l.self) (view l.helper.claimer) l.helper.carried l.fn.helper.place l.number

abbrev pub decreases-loop-entry : goal.decreases-loop-entry
decreases-loop-entry g l = length (entries l.self.marker.now) - l.number
