use Rattle.heap_spec.specs.declared.call.Call.TheVariants.{Pop}
use Rattle.heap_spec.specs.declared.event.Event.TheVariants.{Mutator}
use Rattle.heap_spec.specs.Replies.{word_reply}
use Rattle.plain_heap.proofs.Stands.{steps_roots}
use Rattle.plain_heap.proofs.plain.PlainHeap.pop.Goals as goal

pub returns-clause-step : goal.returns-clause-step
returns-clause-step c = rw (← c.self.view_is) (steps_roots _ _ (Mutator c.args.slot (Pop c.args.into)) (word_reply c.pop.result) c.pop.ensures)
