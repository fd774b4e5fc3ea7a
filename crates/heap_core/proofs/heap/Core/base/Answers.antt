use Rattle.std.proofs.Common.{sym}
use Rattle.heap_spec.specs.declared.call.Call.TheVariants.{Base}
use Rattle.heap_spec.specs.Steps.{Acts}
use Rattle.roots.proofs.Refusals.{handed_on}
use Rattle.heap_core.proofs.Roots.{refused, refused_vacant}
use Rattle.heap_core.proofs.Lookups.{based, finds_nothing}
use Rattle.heap_core.proofs.Legal.{legal_called}
use Rattle.heap_core.proofs.heap.Core.base.Goals as goal

pub returns-in_err-mutator : goal.returns-in_err-mutator
returns-in_err-mutator c = rw (← c.self.view_is, handed_on _ _ _ c.from_residual.ensures.1 c.in_err-mutator.ensures.err.0) (refused_vacant _ _ _ c.in_err-mutator.ensures.err.1)

pub returns-in_err-found : goal.returns-in_err-found
returns-in_err-found c = rw (← c.self.view_is, handed_on _ _ _ c.from_residual-in_err-found.ensures.1 c.in_err-found.ensures.err.0)
    (refused _ _ _ _ c.in_ok-mutator.mutator.now _ _ c.in_ok-mutator.ensures.ok (λ h. h)
    (λ s h. Acts.base_nothing (finds_nothing _ _ s _ c.in_err-found.ensures.lawful h (rw c.word-word.ensures at (sym c.in_err-found.ensures.err.1)))))

pub returns : goal.returns
returns c = rw (← c.self.view_is)
    (based _ _ _ _ _ _ _ c.in_ok-mutator.mutator.now c.in_ok-found.found c.in_ok-found.ensures.lawful c.in_ok-mutator.ensures.ok (rw c.word-word.ensures at (sym c.in_ok-found.ensures.ok)) c.set_word.ensures)

pub invariant_of-self : goal.invariant_of-self
invariant_of-self c = legal_called _ _ c.self.invariant c.self.invariant.traced c.args.slot (Base c.args.into c.args.from) _ tt
    (based _ _ _ _ _ _ _ c.in_ok-mutator.mutator.now c.in_ok-found.found c.in_ok-found.ensures.lawful c.in_ok-mutator.ensures.ok (rw c.word-word.ensures at (sym c.in_ok-found.ensures.ok)) c.set_word.ensures)
