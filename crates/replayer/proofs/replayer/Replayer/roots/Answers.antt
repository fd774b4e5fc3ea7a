use Rattle.std.proofs.Common.{sym, ◌∙◌}
use Rattle.heap_spec.specs.declared.event.Event.TheVariants.{Roots}
use Rattle.replayer.proofs.Steps.{refuses, roots_stay}
use Rattle.replayer.proofs.replayer.Replayer.roots.Goals as goal

pub returns-then-not-is_marking-clause-yes : goal.returns-then-not-is_marking-clause-yes
returns-then-not-is_marking-clause-yes c done hint = rw (c.is_wrong_phase.ensures.yes done)
    (refuses c.args.self.now c.limits.ensures.number c.limits.ensures.births Roots hint (sym c.is_marking.ensures ∙ c.if-not-is_marking.true))

pub returns-clause-yes : goal.returns-clause-yes
returns-clause-yes c done hint = rw (c.is_done.ensures.yes done)
    (roots_stay c.args.self.now c.limits.ensures.number c.limits.ensures.births hint (sym c.is_marking.ensures ∙ c.if-not-is_marking.false))
