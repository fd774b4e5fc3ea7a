use Rattle.heap_spec.specs.declared.event.Event.TheVariants.{Attach}
use Rattle.heap_spec.specs.Replies.{slot_reply}
use Rattle.heap_core.proofs.Legal.{legal_attached}
use Rattle.heap_core.proofs.Roots.{steps_roots}
use Rattle.heap_core.proofs.heap.Core.attach.Goals as goal

pub returns : goal.returns
returns c = rw (← c.self.view_is) (steps_roots _ _ _ _ Attach (slot_reply c.attach.result) (λ h. h) c.attach.ensures)

pub invariant_of-self : goal.invariant_of-self
invariant_of-self c = legal_attached _ _ _ _ _ c.self.invariant (slot_reply c.attach.result) c.attach.ensures
