use Rattle.std.proofs.Common.{◌<◌, subst, sym}
use Rattle.heap_spec.specs.Layout.{word_end}
use Rattle.replayer.specs.ReplayerContents.{ReplayerContents}
use Rattle.replayer.proofs.Collecting.{collects_counted, collect_uncounted, collect_unequal}
use Rattle.replayer.proofs.replayer.Replayer.collect_counted.Goals as goal

pub returns-in_default-clause-no : goal.returns-in_default-clause-no
returns-in_default-clause-no c refused = collect_uncounted _ c.limits.ensures.number c.limits.ensures.births _ c.in_default.ensures.none

pub returns-then-not-collect_counted-clause-no : goal.returns-then-not-collect_counted-clause-no
returns-then-not-collect_counted-clause-no c refused =
    let small = subst (λ (r : ReplayerContents). r.number < word_end) (sym c.self.view_is) c.limits.ensures.number in
    let few = subst (λ (r : ReplayerContents). r.births < word_end) (sym c.self.view_is) c.limits.ensures.births in
    rw (← c.self.view_is, c.in-Some.ensures.some) (collect_unequal _ small few _ (c.collect_counted.ensures.no c.if-not-collect_counted.true))

pub returns-clause-yes : goal.returns-clause-yes
returns-clause-yes c done =
    let small = subst (λ (r : ReplayerContents). r.number < word_end) (sym c.self.view_is) c.limits.ensures.number in
    let few = subst (λ (r : ReplayerContents). r.births < word_end) (sym c.self.view_is) c.limits.ensures.births in
    rw (← c.self.view_is, c.in-Some.ensures.some) (collects_counted _ small few _ _ _ c.age_all.ensures.size c.age_all.ensures.flags (c.collect_counted.ensures.yes c.if-not-collect_counted.false))
