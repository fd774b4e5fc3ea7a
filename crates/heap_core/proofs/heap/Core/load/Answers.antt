use Rattle.std.proofs.Common.{sym}
use Rattle.heap_spec.specs.declared.call.Call.TheVariants.{Load}
use Rattle.heap_spec.specs.Steps.{Acts}
use Rattle.object_space.proofs.Kept.{kept_map}
use Rattle.roots.proofs.Refusals.{handed_on}
use Rattle.heap_core.proofs.Roots.{refused, refused_vacant}
use Rattle.heap_view.proofs.Shows.{is_word}
use Rattle.heap_core.proofs.Lookups.{finds_nothing, loads}
use Rattle.heap_core.proofs.Legal.{legal_called}
use Rattle.heap_core.proofs.heap.Core.load.Goals as goal

pub returns-in_err-mutator : goal.returns-in_err-mutator
returns-in_err-mutator c = rw (← c.self.view_is, handed_on _ _ _ c.from_residual.ensures.1 c.in_err-mutator.ensures.err.0) (refused_vacant _ _ _ c.in_err-mutator.ensures.err.1)

pub returns-then-address-ne0 : goal.returns-then-address-ne0
returns-then-address-ne0 c = rw (← c.self.view_is)
    (refused _ _ _ _ c.in_ok-mutator.mutator.now _ _ c.in_ok-mutator.ensures.ok (λ h. h) (λ s h. Acts.load_misaligned (rw c.address-address.ensures at c.if-address-ne0.true)))

pub returns-in_err-find_in : goal.returns-in_err-find_in
returns-in_err-find_in c = rw (← c.self.view_is, handed_on _ _ _ c.from_residual-in_err-find_in.ensures.1 c.in_err-find_in.ensures.err.0)
    (refused _ _ _ _ c.in_ok-mutator.mutator.now _ _ c.in_ok-mutator.ensures.ok (λ h. h)
    (λ s h. Acts.load_nothing (rw c.address-address.ensures at c.if-address-ne0.false) (finds_nothing _ _ s _ c.in_err-find_in.ensures.lawful h (rw c.address-address.ensures at (sym c.in_err-find_in.ensures.err.1)))))

pub read-word-requires : goal.read-word-requires
read-word-requires c = is_word _ _ (kept_map _ _ _ c.in_ok-find_in.ensures.lawful.map) _ c.in_ok-find_in.ensures.long _ c.in_ok-find_in.field-0 (sym c.in_ok-find_in.ensures.ok) c.if-address-ne0.false

pub returns : goal.returns
returns c = rw (← c.self.view_is)
    (loads _ _ _ _ _ _ _ _ _ c.in_ok-mutator.mutator.now c.in_ok-find_in.field-0 c.in_ok-find_in.ensures.lawful c.in_ok-mutator.ensures.ok
    (rw c.address-address.ensures at c.if-address-ne0.false)
    (rw c.address-address.ensures at (sym c.in_ok-find_in.ensures.ok))
    (rw c.address-address.ensures at c.read-word.ensures)
    c.set_word.ensures)

pub invariant_of-self : goal.invariant_of-self
invariant_of-self c = legal_called _ _ c.self.invariant c.self.invariant.traced c.args.slot (Load c.args.into c.args.at c.args.offset) _ tt
    (loads _ _ _ _ _ _ _ _ _ c.in_ok-mutator.mutator.now c.in_ok-find_in.field-0 c.in_ok-find_in.ensures.lawful c.in_ok-mutator.ensures.ok
    (rw c.address-address.ensures at c.if-address-ne0.false)
    (rw c.address-address.ensures at (sym c.in_ok-find_in.ensures.ok))
    (rw c.address-address.ensures at c.read-word.ensures)
    c.set_word.ensures)
