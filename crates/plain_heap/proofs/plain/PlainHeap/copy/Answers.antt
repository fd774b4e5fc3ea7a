use Rattle.heap_spec.specs.declared.call.Call.TheVariants.{Copy}
use Rattle.heap_spec.specs.declared.event.Event.TheVariants.{Mutator}
use Rattle.heap_spec.specs.Replies.{done_reply}
use Rattle.plain_heap.proofs.Stands.{steps_roots}
use Rattle.plain_heap.proofs.plain.PlainHeap.copy.Goals as goal

pub returns-clause-step : goal.returns-clause-step
returns-clause-step c = rw (← c.self.view_is) (steps_roots _ _ (Mutator c.args.slot (Copy c.args.into c.args.from)) (done_reply c.copy.result) c.copy.ensures)
