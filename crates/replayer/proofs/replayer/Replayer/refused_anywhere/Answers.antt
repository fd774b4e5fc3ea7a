use Rattle.std.proofs.Common.{◌<◌, subst, sym}
use Rattle.heap_spec.specs.Layout.{word_end}
use Rattle.replayer.specs.ReplayerContents.{ReplayerContents}
use Rattle.replayer.proofs.Granting.{refuses_anywhere, no_refusal_anywhere}
use Rattle.replayer.proofs.replayer.Replayer.refused_anywhere.Goals as goal

pub returns-clause-yes : goal.returns-clause-yes
returns-clause-yes c done hint n =
    let small = subst (λ (r : ReplayerContents). r.number < word_end) (sym c.self.view_is) c.limits.ensures.number in
    let few = subst (λ (r : ReplayerContents). r.births < word_end) (sym c.self.view_is) c.limits.ensures.births in
    rw (← c.self.view_is) (refuses_anywhere _ small few _ _ _ _ _ hint n c.objects_are_apart.ensures c.requires (c.may_refuse.ensures.yes done))

pub returns-clause-no : goal.returns-clause-no
returns-clause-no c refused hint n =
    let small = subst (λ (r : ReplayerContents). r.number < word_end) (sym c.self.view_is) c.limits.ensures.number in
    let few = subst (λ (r : ReplayerContents). r.births < word_end) (sym c.self.view_is) c.limits.ensures.births in
    rw (← c.self.view_is) (no_refusal_anywhere _ small few _ _ _ _ _ hint n c.requires (c.may_refuse.ensures.no refused))
