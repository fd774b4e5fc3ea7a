use Rattle.std.proofs.Common.{◌≡◌, ◌<◌, subst, sym, ◌∙◌}
use Rattle.heap_spec.specs.Layout.{word_end}
use Rattle.heap_spec.specs.declared.event.Event.TheVariants.{BeginPartial}
use Rattle.replayer.specs.ReplayerContents.{ReplayerContents}
use Rattle.replayer.proofs.Steps.{refuses, needs_stay, begins_partial}
use Rattle.replayer.proofs.replayer.Replayer.begin_partial.Goals as goal

pub returns-then-is_marking-clause-yes : goal.returns-then-is_marking-clause-yes
returns-then-is_marking-clause-yes c done hint = rw (c.is_wrong_phase.ensures.yes done)
    (refuses c.args.self.now c.limits.ensures.number c.limits.ensures.births BeginPartial hint (sym c.is_marking.ensures ∙ c.if-is_marking.true))

pub returns-then-needs_full-clause-yes : goal.returns-then-needs_full-clause-yes
returns-then-needs_full-clause-yes c done hint = rw (c.is_needs_full.ensures.yes done)
    (needs_stay c.args.self.now c.limits.ensures.number c.limits.ensures.births hint (sym c.is_marking.ensures ∙ c.if-is_marking.false) (sym c.needs_full.ensures ∙ c.if-needs_full.true))

pub returns-clause-yes : goal.returns-clause-yes
returns-clause-yes c done hint =
    let small = subst (λ (r : ReplayerContents). r.number < word_end) (sym c.self.view_is) c.limits.ensures.number in
    let few = subst (λ (r : ReplayerContents). r.births < word_end) (sym c.self.view_is) c.limits.ensures.births in
    let m = subst (λ (r : ReplayerContents). c.is_marking.result ≡ r.marking) (sym c.self.view_is) c.is_marking.ensures in
    let n = subst (λ (r : ReplayerContents). c.needs_full.result ≡ r.needs_full) (sym c.self.view_is) c.needs_full.ensures in
    rw (← c.self.view_is, c.is_done.ensures.yes c.if-not-is_done.false, c.flag_partial.ensures.same)
    (begins_partial _ small few _ hint c.objects_are_apart.ensures c.flag_partial.ensures.size c.flag_partial.ensures.flags (sym m ∙ c.if-is_marking.false) (sym n ∙ c.if-needs_full.false))
