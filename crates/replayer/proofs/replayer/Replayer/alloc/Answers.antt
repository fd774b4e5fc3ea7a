use Rattle.std.proofs.Common.{◌<◌, ◌+◌, subst, sym}
use Rattle.heap_spec.specs.Layout.{word_end}
use Rattle.replayer.specs.ReplayerContents.{ReplayerContents}
use Rattle.replayer.proofs.Steps.{no_birth, grants}
use Rattle.replayer.proofs.replayer.Replayer.alloc.Goals as goal

pub returns-then-is_full-clause-no : goal.returns-then-is_full-clause-no
returns-then-is_full-clause-no c refused begins = no_birth _ c.limits.ensures.number c.limits.ensures.births _ _ _ _ _ (c.is_full.ensures.yes c.if-is_full.true)

pub returns-clause-yes : goal.returns-clause-yes
returns-clause-yes c done =
    let small = subst (λ (r : ReplayerContents). r.number < word_end) (sym c.self.view_is) c.limits.ensures.number in
    let few = subst (λ (r : ReplayerContents). r.births < word_end) (sym c.self.view_is) c.limits.ensures.births in
    let room = subst (λ (r : ReplayerContents). r.births + 1 < word_end) (sym c.self.view_is) (c.is_full.ensures.no c.if-is_full.false) in
    rw (← c.self.view_is, c.in-Place.is, c.flag_place.ensures.same) (grants _ small few _ _ _ _ _ _ _ _ c.alloc_at.ensures.origin c.objects_are_apart.ensures c.objects_are_apart-2.ensures (c.alloc_at.ensures.yes c.if-not-alloc_at.false) room c.flag_place.ensures.size c.flag_place.ensures.flags (rw c.flag_place.ensures.same at c.renew.ensures))
