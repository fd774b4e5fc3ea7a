use Rattle.std.proofs.Common.{◌<◌, subst, sym}
use Rattle.heap_spec.specs.Layout.{word_end}
use Rattle.replayer.specs.ReplayerContents.{ReplayerContents}
use Rattle.replayer.proofs.Steps.{attaches}
use Rattle.replayer.proofs.replayer.Replayer.attach.Goals as goal

pub returns-clause-yes : goal.returns-clause-yes
returns-clause-yes c done hint =
    let small = subst (λ (r : ReplayerContents). r.number < word_end) (sym c.self.view_is) c.limits.ensures.number in
    let few = subst (λ (r : ReplayerContents). r.births < word_end) (sym c.self.view_is) c.limits.ensures.births in
    rw (← c.self.view_is) (attaches _ small few _ _ hint c.attach_as.ensures.origin c.objects_are_apart.ensures c.objects_are_apart-2.ensures (c.attach_as.ensures.yes c.if-not-attach_as.false))
