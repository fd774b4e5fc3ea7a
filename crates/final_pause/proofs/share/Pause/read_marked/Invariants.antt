use Rattle.std.proofs.Common.{ℕ, ◌+◌, ◌*◌}
use Rattle.marker.proofs.Rests.{IsRest}
use Rattle.mark_bits.specs.Tables.{view}
use Rattle.final_pause.specs.Pauses.{pause_view}
use Rattle.final_pause.specs.Serving.{GoesOnServing, AreObjectsRead}
use Rattle.final_pause.proofs.share.Pause.read_marked.Given as goal

abbrev pub invariant-loop-rest : goal.invariant-loop-rest
invariant-loop-rest g l =
    GoesOnServing (pause_view l.self) l.fn.helper l.helper
    × (from : ℕ)
    × IsRest l.own l.rest from
    × AreObjectsRead (pause_view l.self) (view l.helper.claimer) l.helper.carried l.fn.helper.place l.dirty.number (64 * l.j) (64 * l.j + from)

abbrev pub decreases-loop-rest : goal.decreases-loop-rest
decreases-loop-rest g l = l.rest
