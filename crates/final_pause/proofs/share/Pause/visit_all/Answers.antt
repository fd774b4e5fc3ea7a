use Rattle.std.proofs.Common.{[], ◌∷◌}
use Rattle.marker.specs.Marking.{bytes_of}
use Rattle.marker.proofs.Words.{tells_append, tells_nothing}
use Rattle.final_pause.specs.Pauses.{pause_view}
use Rattle.final_pause.specs.Helping.{found}
use Rattle.final_pause.proofs.Growing.{visits_none, visits_next}
use Rattle.final_pause.proofs.share.Pause.visit_all.Goals as goal

pub loop-word-init : goal.loop-word-init
loop-word-init g c =
    let p = pause_view c.args.self.now in
    record { visits = visits_none p c.args.helper.now c.requires.of; stray = tells_nothing (found p) (bytes_of p.marker) }

pub loop-word-preserved : goal.loop-word-preserved
loop-word-preserved g c =
    let p = pause_view c.args.self.now in let i = c.loop-word.invariant in let v = c.visit-stray.ensures in
    record {
      visits = visits_next p _ _ c.args.helper.now c.loop-word.helper c.visit-stray.new.helper i.visits v.visits;
      stray = tells_append (found p) (bytes_of p.marker) _ (_ ∷ []) _ _ i.stray v.stray;
    }
