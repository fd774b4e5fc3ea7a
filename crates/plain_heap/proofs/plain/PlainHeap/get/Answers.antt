use Rattle.heap_spec.specs.declared.call.Call.TheVariants.{Get}
use Rattle.heap_spec.specs.declared.event.Event.TheVariants.{Mutator}
use Rattle.heap_spec.specs.Replies.{word_reply}
use Rattle.plain_heap.proofs.Stands.{steps_roots}
use Rattle.plain_heap.proofs.plain.PlainHeap.get.Goals as goal

pub returns : goal.returns
returns c = rw (← c.self.view_is) (steps_roots _ _ (Mutator c.args.slot (Get c.args.reg)) (word_reply c.get.result) c.get.ensures)
