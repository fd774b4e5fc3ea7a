use Rattle.std.proofs.Common.{◌≡◌, ◌<◌, subst, sym, ◌∙◌}
use Rattle.heap_spec.specs.Layout.{word_end}
use Rattle.replayer.specs.ReplayerContents.{ReplayerContents}
use Rattle.heap_spec.specs.declared.event.Event.TheVariants.{Begin}
use Rattle.replayer.proofs.Steps.{refuses, begins}
use Rattle.replayer.proofs.replayer.Replayer.begin.Goals as goal

pub returns-then-is_marking-clause-yes : goal.returns-then-is_marking-clause-yes
returns-then-is_marking-clause-yes c done hint = rw (c.is_wrong_phase.ensures.yes done)
    (refuses c.args.self.now c.limits.ensures.number c.limits.ensures.births Begin hint (sym c.is_marking.ensures ∙ c.if-is_marking.true))

pub returns-clause-yes : goal.returns-clause-yes
returns-clause-yes c done hint =
    let small = subst (λ (r : ReplayerContents). r.number < word_end) (sym c.self.view_is) c.limits.ensures.number in
    let few = subst (λ (r : ReplayerContents). r.births < word_end) (sym c.self.view_is) c.limits.ensures.births in
    let m = subst (λ (r : ReplayerContents). c.is_marking.result ≡ r.marking) (sym c.self.view_is) c.is_marking.ensures in
    rw (← c.self.view_is, c.is_done.ensures.yes c.if-not-is_done.false, c.flag_begin.ensures.same) (begins _ small few _ hint c.objects_are_apart.ensures c.flag_begin.ensures.size c.flag_begin.ensures.flags (sym m ∙ c.if-is_marking.false))
