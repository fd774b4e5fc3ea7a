use Rattle.std.proofs.Common.{sym, ◌∙◌}
use Rattle.std.proofs.lemmas.Bool.{eqb-true, eq-eqb}
use Rattle.final_pause.proofs.OwnMarks.{turn_bit}
use Rattle.final_pause.proofs.turns.bits_of_turn.Goals as goal

pub returns-then-turn-place : goal.returns-then-turn-place
returns-then-turn-place c = λ k lt.
    let t = turn_bit c.args.i k c.requires lt in (
      (λ e. (c.if-turn-place.true, eqb-true _ _ (sym t ∙ eq-eqb _ _ e))),
      (λ h. eqb-true _ _ (t ∙ eq-eqb _ _ h.1)),
    )
