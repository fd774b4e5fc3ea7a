use Rattle.heap_spec.specs.declared.call.Call.TheVariants.{Push}
use Rattle.heap_spec.specs.declared.event.Event.TheVariants.{Mutator}
use Rattle.heap_spec.specs.Replies.{done_reply}
use Rattle.plain_heap.proofs.Stands.{steps_roots}
use Rattle.plain_heap.proofs.plain.PlainHeap.push.Goals as goal

pub returns-clause-step : goal.returns-clause-step
returns-clause-step c = rw (← c.self.view_is) (steps_roots _ _ (Mutator c.args.slot (Push c.args.from)) (done_reply c.push.result) c.push.ensures)
