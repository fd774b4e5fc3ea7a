use Rattle.heap_spec.specs.declared.call.Call.TheVariants.{Set}
use Rattle.heap_spec.specs.declared.event.Event.TheVariants.{Mutator}
use Rattle.heap_spec.specs.Replies.{done_reply}
use Rattle.heap_core.proofs.Legal.{legal_roots}
use Rattle.heap_core.proofs.Roots.{steps_roots}
use Rattle.heap_core.proofs.heap.Core.set.Goals as goal

pub returns : goal.returns
returns c = rw (← c.self.view_is) (steps_roots _ _ _ _ (Mutator c.args.slot (Set c.args.reg c.args.word)) (done_reply c.set.result) (λ h. h) c.set.ensures)

pub invariant_of-self : goal.invariant_of-self
invariant_of-self c = legal_roots _ _ _ _ _ c.self.invariant c.args.slot (Set c.args.reg c.args.word) (done_reply c.set.result) c.ranges.word.fits (λ h. h) c.set.ensures
