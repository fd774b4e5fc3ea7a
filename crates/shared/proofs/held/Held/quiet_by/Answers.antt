use Rattle.std.proofs.Common.{sym, subst}
use Rattle.history.specs.Passes.{Recorded}
use Rattle.heap_spec.specs.declared.event.Event.{Event}
use Rattle.heap_spec.specs.declared.reply.Reply.{Reply}
use Rattle.heap_core.specs.CoreContents.{CoreContents}
use Rattle.heap_core.specs.AsObject.{Stands}
use Rattle.shared.proofs.held.Held.quiet_by.Goals as goal

pub returns-clause-keeps : goal.returns-clause-keeps
returns-clause-keeps g c = λ s st. c.quiet_by.ensures.keeps s (subst (λ (r : Recorded CoreContents Event Reply). Stands r.object s) (sym c.self.view_is) st)
