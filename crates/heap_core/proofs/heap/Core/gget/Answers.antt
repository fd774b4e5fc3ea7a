use Rattle.heap_spec.specs.declared.call.Call.TheVariants.{GlobalGet}
use Rattle.heap_spec.specs.declared.event.Event.TheVariants.{Mutator}
use Rattle.heap_spec.specs.Replies.{word_reply}
use Rattle.heap_core.proofs.Legal.{legal_roots}
use Rattle.heap_core.proofs.Roots.{steps_roots}
use Rattle.heap_core.proofs.heap.Core.gget.Goals as goal

pub returns : goal.returns
returns c = rw (← c.self.view_is) (steps_roots _ _ _ _ (Mutator c.args.slot (GlobalGet c.args.into c.args.global)) (word_reply c.gget.result) (λ h. h) c.gget.ensures)

pub invariant_of-self : goal.invariant_of-self
invariant_of-self c = legal_roots _ _ _ _ _ c.self.invariant c.args.slot (GlobalGet c.args.into c.args.global) (word_reply c.gget.result) tt (λ h. h) c.gget.ensures
