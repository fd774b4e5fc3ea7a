use Rattle.mark_bits.specs.Tables.{view}
use Rattle.final_pause.specs.Pauses.{pause_view}
use Rattle.final_pause.specs.Serving.{GoesOnServing, AreRootsRead}
use Rattle.final_pause.proofs.share.Pause.read_roots.Given as goal

abbrev pub invariant-loop-i : goal.invariant-loop-i
invariant-loop-i g l =
    GoesOnServing (pause_view l.self) l.fn.helper l.helper
    × AreRootsRead (pause_view l.self) (view l.helper.claimer) l.fn.helper.place l.i
