use Rattle.std.proofs.Common.{subst, List, [], ◌∷◌, ℕ, sym, ap, ◌∙◌}
use Rattle.block_map.specs.FoundIn.{found_in}
use Rattle.marker.specs.Growth.{Traces}
use Rattle.marker.proofs.Beside.{still_here}
use Rattle.marker.proofs.Growing.{traces_trans}
use Rattle.final_pause.proofs.alone.mark_on.Goals as goal

pub returns-in-Some-clause-traces : goal.returns-in-Some-clause-traces
returns-in-Some-clause-traces c =
    traces_trans (found_in c.args.map.now) c.args.reader.now.words [] c.args.marker.now c.step-marked.new.self c.retrace.new.self (c.step-marked.ensures.traces c.requires.one)
    (subst (λ (w : List ℕ). Traces (found_in c.args.map.now) w [] c.step-marked.new.self c.retrace.new.self) c.step-marked.ensures.words c.retrace.ensures.traces)

pub retrace-requires-clause-still : goal.retrace-requires-clause-still
retrace-requires-clause-still c page first = still_here _ _ _ page (c.step-marked.ensures.moments ∙ c.requires.one ∙ ap (λ w. w ∷ []) (sym c.step-marked.ensures.words))
