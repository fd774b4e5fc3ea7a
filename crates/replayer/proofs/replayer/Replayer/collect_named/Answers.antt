use Rattle.std.proofs.Common.{◌<◌, refl, subst, sym}
use Rattle.heap_spec.specs.Layout.{word_end}
use Rattle.replayer.specs.ReplayerContents.{ReplayerContents}
use Rattle.replayer.proofs.Collecting.{collects, collect_unnamed, collect_untaken}
use Rattle.replayer.proofs.replayer.Replayer.collect_named.Goals as goal

pub returns-in_default-clause-no : goal.returns-in_default-clause-no
returns-in_default-clause-no c refused = collect_unnamed _ c.limits.ensures.number c.limits.ensures.births _ _ c.requires c.in_default.ensures.none

pub returns-then-not-collect_as-clause-no : goal.returns-then-not-collect_as-clause-no
returns-then-not-collect_as-clause-no c refused =
    let small = subst (λ (r : ReplayerContents). r.number < word_end) (sym c.self.view_is) c.limits.ensures.number in
    let few = subst (λ (r : ReplayerContents). r.births < word_end) (sym c.self.view_is) c.limits.ensures.births in
    rw (← c.self.view_is, c.in-Some.ensures.some.0) (collect_untaken _ small few _ _ (c.collect_as.ensures.no c.if-not-collect_as.true))

pub returns-clause-yes : goal.returns-clause-yes
returns-clause-yes c done =
    let small = subst (λ (r : ReplayerContents). r.number < word_end) (sym c.self.view_is) c.limits.ensures.number in
    let few = subst (λ (r : ReplayerContents). r.births < word_end) (sym c.self.view_is) c.limits.ensures.births in
    rw (← c.self.view_is, c.in-Some.ensures.some.0, c.in-Some.ensures.some.1)
    (collects _ small few _ _ c.age_all.ensures.size c.age_all.ensures.flags _ (c.collect_as.ensures.yes c.if-not-collect_as.false) _ refl)
