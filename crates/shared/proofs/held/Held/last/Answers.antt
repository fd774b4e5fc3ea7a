use Rattle.std.proofs.Common.{sym, subst}
use Rattle.history.specs.Passes.{Recorded}
use Rattle.heap_spec.specs.declared.event.Event.{Event}
use Rattle.heap_spec.specs.declared.reply.Reply.{Reply}
use Rattle.heap_core.specs.CoreContents.{CoreContents}
use Rattle.heap_core.specs.AsObject.{Stands}
use Rattle.shared.proofs.held.Held.last.Goals as goal

pub returns-clause-step : goal.returns-clause-step
returns-clause-step g c = λ s st. c.last-past.ensures.step s (subst (λ (r : Recorded CoreContents Event Reply). Stands r.object s) (sym c.self.view_is) st)
