use Rattle.std.proofs.Common.{◌<◌, subst, sym}
use Rattle.heap_spec.specs.Layout.{word_end}
use Rattle.replayer.specs.ReplayerContents.{ReplayerContents}
use Rattle.replayer.proofs.Steps.{calls}
use Rattle.replayer.proofs.replayer.Replayer.answered.Goals as goal

pub returns-clause-yes : goal.returns-clause-yes
returns-clause-yes c done hint =
    let small = subst (λ (r : ReplayerContents). r.number < word_end) (sym c.self.view_is) c.limits.ensures.number in
    let few = subst (λ (r : ReplayerContents). r.births < word_end) (sym c.self.view_is) c.limits.ensures.births in
    rw (← c.self.view_is, c.flag_call.ensures.same) (calls _ small few _ _ _ c.args.slot _ _ hint c.call_as.ensures.origin c.objects_are_apart.ensures c.objects_are_apart-2.ensures c.requires (c.call_as.ensures.yes c.if-not-call_as.false (λ into words kind asks done. absurd (c.requires (into, words, kind, asks, done)))) (c.needs_full_after-self-inside.ensures c.args.slot) c.flag_call.ensures.size c.flag_call.ensures.flags)
