use Rattle.heap_spec.specs.declared.call.Call.TheVariants.{GlobalPut}
use Rattle.heap_spec.specs.declared.event.Event.TheVariants.{Mutator}
use Rattle.heap_spec.specs.Replies.{done_reply}
use Rattle.heap_core.proofs.Legal.{legal_roots}
use Rattle.heap_core.proofs.Roots.{steps_roots}
use Rattle.heap_core.proofs.heap.Core.gput.Goals as goal

pub returns : goal.returns
returns c = rw (← c.self.view_is) (steps_roots _ _ _ _ (Mutator c.args.slot (GlobalPut c.args.global c.args.from)) (done_reply c.gput.result) (λ h. h) c.gput.ensures)

pub invariant_of-self : goal.invariant_of-self
invariant_of-self c = legal_roots _ _ _ _ _ c.self.invariant c.args.slot (GlobalPut c.args.global c.args.from) (done_reply c.gput.result) tt (λ h. h) c.gput.ensures
