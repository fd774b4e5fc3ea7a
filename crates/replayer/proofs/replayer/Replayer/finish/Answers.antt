use Rattle.std.proofs.Common.{◌≡◌, ◌<◌, refl, subst, sym, ◌∙◌}
use Rattle.std.proofs.lemmas.Bool.{true≢false}
use Rattle.heap_spec.specs.Layout.{word_end}
use Rattle.replayer.specs.ReplayerContents.{ReplayerContents}
use Rattle.heap_spec.specs.declared.event.Event.TheVariants.{Finish}
use Rattle.replayer.proofs.Steps.{refuses}
use Rattle.replayer.proofs.Collecting.{finishes, finish_unnamed, finish_untaken}
use Rattle.replayer.proofs.replayer.Replayer.finish.Goals as goal

pub returns-then-not-is_marking-clause-yes : goal.returns-then-not-is_marking-clause-yes
returns-then-not-is_marking-clause-yes c done = rw (c.is_wrong_phase.ensures.yes done)
    (refuses c.args.self.now c.limits.ensures.number c.limits.ensures.births Finish c.args.hint (sym c.is_marking.ensures ∙ c.if-not-is_marking.true))

pub returns-in_default-clause-no : goal.returns-in_default-clause-no
returns-in_default-clause-no c refused = finish_unnamed _ c.limits.ensures.number c.limits.ensures.births _ (λ idle. absurd (true≢false (sym (sym c.is_marking.ensures ∙ c.if-not-is_marking.false) ∙ idle))) _ c.in_default.ensures.none

pub returns-then-not-forget-clause-no : goal.returns-then-not-forget-clause-no
returns-then-not-forget-clause-no c refused =
    let small = subst (λ (r : ReplayerContents). r.number < word_end) (sym c.self.view_is) c.limits.ensures.number in
    let few = subst (λ (r : ReplayerContents). r.births < word_end) (sym c.self.view_is) c.limits.ensures.births in
    let m = subst (λ (r : ReplayerContents). c.is_marking.result ≡ r.marking) (sym c.self.view_is) c.is_marking.ensures in
    rw (← c.self.view_is, c.in-Some.ensures.some.0) (finish_untaken _ small few _ (λ idle. absurd (true≢false (sym (sym m ∙ c.if-not-is_marking.false) ∙ idle))) _ (c.forget.ensures.no c.if-not-forget.true))

pub returns-clause-yes : goal.returns-clause-yes
returns-clause-yes c done =
    let small = subst (λ (r : ReplayerContents). r.number < word_end) (sym c.self.view_is) c.limits.ensures.number in
    let few = subst (λ (r : ReplayerContents). r.births < word_end) (sym c.self.view_is) c.limits.ensures.births in
    let m = subst (λ (r : ReplayerContents). c.is_marking.result ≡ r.marking) (sym c.self.view_is) c.is_marking.ensures in
    rw (← c.self.view_is, c.in-Some.ensures.some.0, c.in-Some.ensures.some.1)
    (finishes _ small few _ _ c.age_all.ensures.size c.age_all.ensures.flags _ (c.forget.ensures.yes c.if-not-forget.false) (sym m ∙ c.if-not-is_marking.false) _ refl)
