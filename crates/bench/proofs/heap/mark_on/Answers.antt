use Rattle.std.proofs.Common.{[], ◌∷◌, sym, ap, ◌∙◌}
use Rattle.marker.proofs.Beside.{still_here}
use Rattle.bench.proofs.heap.mark_on.Goals as goal

pub retrace-page-requires-clause-still : goal.retrace-page-requires-clause-still
retrace-page-requires-clause-still c page first = still_here _ _ _ page (c.step-marked.ensures.moments ∙ c.new-reader.ensures.moments ∙ ap (λ w. w ∷ []) (sym c.step-marked.ensures.words))
