use Rattle.std.proofs.Common.{◌≡◌, subst, sym, ◌∙◌}
use Rattle.replayer.specs.ReplayerContents.{ReplayerContents}
use Rattle.replayer.proofs.Blamed.{idle, finish_wrong}
use Rattle.replayer.proofs.replayer.Replayer.wrong_finish.Goals as goal

pub returns-then-not-is_marking-clause-wrong : goal.returns-then-not-is_marking-clause-wrong
returns-then-not-is_marking-clause-wrong c = λ start run f. idle _ start run f (sym c.is_marking.ensures ∙ c.if-not-is_marking.true) _

pub returns-clause-wrong : goal.returns-clause-wrong
returns-clause-wrong c =
    let m = subst (λ (r : ReplayerContents). c.is_marking.result ≡ r.marking) (sym c.self.view_is) c.is_marking.ensures in
    rw (← c.self.view_is) (λ start run f. finish_wrong _ start run f (sym m ∙ c.if-not-is_marking.false) _ _ c.wrong_forgotten.ensures.wrong)
