use Rattle.std.proofs.Common.{sym, ◌∙◌}
use Rattle.std.proofs.lemmas.Bool.{leb-true}
use Rattle.heap_spec.specs.declared.event.Event.TheVariants.{Retrace}
use Rattle.replayer.proofs.Steps.{refuses, retrace_stays}
use Rattle.replayer.proofs.replayer.Replayer.retrace.Goals as goal

pub returns-then-not-is_marking-clause-yes : goal.returns-then-not-is_marking-clause-yes
returns-then-not-is_marking-clause-yes c done hint = rw (c.is_wrong_phase.ensures.yes done)
    (refuses c.args.self.now c.limits.ensures.number c.limits.ensures.births Retrace hint (sym c.is_marking.ensures ∙ c.if-not-is_marking.true))

pub returns-clause-yes : goal.returns-clause-yes
returns-clause-yes c done hint = rw c.in-Some.ensures.some
    (retrace_stays c.args.self.now c.limits.ensures.number c.limits.ensures.births c.in-Some.n hint (sym c.is_marking.ensures ∙ c.if-not-is_marking.false) (leb-true _ _ done))
