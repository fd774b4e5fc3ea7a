use Rattle.heap_spec.specs.declared.event.Event.TheVariants.{Attach}
use Rattle.heap_spec.specs.Replies.{slot_reply}
use Rattle.plain_heap.proofs.Stands.{steps_roots}
use Rattle.plain_heap.proofs.plain.PlainHeap.attach.Goals as goal

pub returns-clause-step : goal.returns-clause-step
returns-clause-step c = rw (← c.self.view_is) (steps_roots _ _ Attach (slot_reply c.attach.result) c.attach.ensures)
