use Rattle.heap_spec.specs.declared.call.Call.TheVariants.{GlobalGet}
use Rattle.heap_spec.specs.declared.event.Event.TheVariants.{Mutator}
use Rattle.heap_spec.specs.Replies.{word_reply}
use Rattle.plain_heap.proofs.Stands.{steps_roots}
use Rattle.plain_heap.proofs.plain.PlainHeap.gget.Goals as goal

pub returns-clause-step : goal.returns-clause-step
returns-clause-step c = rw (← c.self.view_is) (steps_roots _ _ (Mutator c.args.slot (GlobalGet c.args.into c.args.global)) (word_reply c.gget.result) c.gget.ensures)
