use Rattle.std.proofs.Common.{sym, ap, ◌∙◌}
use Rattle.roots.proofs.Refusals.{handed_on}
use Rattle.plain_heap.proofs.Stands.{refused_vacant}
use Rattle.plain_heap.proofs.Linking.{unlinked, one_if}
use Rattle.plain_heap.proofs.plain.PlainHeap.unlink.Goals as goal

pub returns-in_err-mutator-clause-step : goal.returns-in_err-mutator-clause-step
returns-in_err-mutator-clause-step c = rw (← c.self.view_is, handed_on _ _ _ c.from_residual.ensures.1 c.in_err-mutator.ensures.err.0) (refused_vacant _ _ _ c.in_err-mutator.ensures.err.1)

pub returns-then-not-stood-clause-step : goal.returns-then-not-stood-clause-step
returns-then-not-stood-clause-step c = rw (← c.self.view_is, c.unlink.ensures, c.address-address.ensures)
    (unlinked _ _ _ _ c.in_ok-mutator.mutator.now 0 c.in_ok-mutator.ensures.ok (ap one_if (sym c.if-not-stood.true ∙ rw c.address-address.ensures at c.has-stood.ensures)))

pub returns-clause-step : goal.returns-clause-step
returns-clause-step c = rw (← c.self.view_is, c.unlink.ensures, c.address-address.ensures)
    (unlinked _ _ _ _ c.in_ok-mutator.mutator.now 1 c.in_ok-mutator.ensures.ok (ap one_if (sym c.if-not-stood.false ∙ rw c.address-address.ensures at c.has-stood.ensures)))
