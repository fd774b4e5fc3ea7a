use Rattle.std.proofs.Common.{sym, ap, ◌∙◌}
use Rattle.heap_spec.specs.declared.call.Call.TheVariants.{Unlink}
use Rattle.roots.proofs.Refusals.{handed_on}
use Rattle.heap_core.proofs.Roots.{refused_vacant}
use Rattle.heap_core.proofs.Linking.{unlinked, one_if}
use Rattle.heap_core.proofs.Legal.{legal_called}
use Rattle.heap_core.proofs.heap.Core.unlink.Goals as goal

pub returns-in_err-mutator : goal.returns-in_err-mutator
returns-in_err-mutator c = rw (← c.self.view_is, handed_on _ _ _ c.from_residual.ensures.1 c.in_err-mutator.ensures.err.0) (refused_vacant _ _ _ c.in_err-mutator.ensures.err.1)

pub returns-then-not-stood : goal.returns-then-not-stood
returns-then-not-stood c = rw (← c.self.view_is, c.unlink.ensures, c.address-address.ensures)
    (unlinked _ _ _ _ _ _ _ c.in_ok-mutator.mutator.now 0 c.in_ok-mutator.ensures.ok (ap one_if (sym c.if-not-stood.true ∙ rw c.address-address.ensures at c.has-stood.ensures)))

pub returns : goal.returns
returns c = rw (← c.self.view_is, c.unlink.ensures, c.address-address.ensures)
    (unlinked _ _ _ _ _ _ _ c.in_ok-mutator.mutator.now 1 c.in_ok-mutator.ensures.ok (ap one_if (sym c.if-not-stood.false ∙ rw c.address-address.ensures at c.has-stood.ensures)))

pub invariant_of-self : goal.invariant_of-self
invariant_of-self c = rw (c.unlink.ensures, c.address-address.ensures)
    (legal_called _ _ c.self.invariant c.self.invariant.traced c.args.slot (Unlink c.args.at c.args.offset) _ tt (unlinked _ _ _ _ _ _ _ c.in_ok-mutator.mutator.now 0 c.in_ok-mutator.ensures.ok (ap one_if (sym c.if-not-stood.true ∙ rw c.address-address.ensures at c.has-stood.ensures))))

pub invariant_of-self-2 : goal.invariant_of-self-2
invariant_of-self-2 c = rw (c.unlink.ensures, c.address-address.ensures)
    (legal_called _ _ c.self.invariant c.self.invariant.traced c.args.slot (Unlink c.args.at c.args.offset) _ tt (unlinked _ _ _ _ _ _ _ c.in_ok-mutator.mutator.now 1 c.in_ok-mutator.ensures.ok (ap one_if (sym c.if-not-stood.false ∙ rw c.address-address.ensures at c.has-stood.ensures))))
