use Rattle.std.proofs.Common.{◌*◌}
use Rattle.words.specs.declared.limits.TheConstants.{PAGE_GRANULES}
use Rattle.mark_bits.specs.Tables.{view}
use Rattle.final_pause.specs.Pauses.{pause_view}
use Rattle.final_pause.specs.Serving.{GoesOnServing, AreObjectsRead}
use Rattle.final_pause.proofs.share.Pause.read_cells.Given as goal

abbrev pub invariant-loop-j : goal.invariant-loop-j
invariant-loop-j g l =
    GoesOnServing (pause_view l.self) l.fn.helper l.helper
    × AreObjectsRead (pause_view l.self) (view l.helper.claimer) l.helper.carried l.fn.helper.place l.dirty.number (PAGE_GRANULES * l.dirty.page) (64 * l.j)
