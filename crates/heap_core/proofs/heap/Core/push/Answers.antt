use Rattle.heap_spec.specs.declared.call.Call.TheVariants.{Push}
use Rattle.heap_spec.specs.declared.event.Event.TheVariants.{Mutator}
use Rattle.heap_spec.specs.Replies.{done_reply}
use Rattle.heap_core.proofs.Legal.{legal_roots}
use Rattle.heap_core.proofs.Roots.{steps_roots}
use Rattle.heap_core.proofs.heap.Core.push.Goals as goal

pub returns : goal.returns
returns c = rw (← c.self.view_is) (steps_roots _ _ _ _ (Mutator c.args.slot (Push c.args.from)) (done_reply c.push.result) (λ h. h) c.push.ensures)

pub invariant_of-self : goal.invariant_of-self
invariant_of-self c = legal_roots _ _ _ _ _ c.self.invariant c.args.slot (Push c.args.from) (done_reply c.push.result) tt (λ h. h) c.push.ensures
