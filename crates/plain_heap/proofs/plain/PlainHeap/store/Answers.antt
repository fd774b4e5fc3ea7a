use Rattle.heap_spec.specs.Steps.{Acts}
use Rattle.roots.proofs.Refusals.{handed_on}
use Rattle.plain_heap.proofs.Stands.{refused_vacant, keeps_all}
use Rattle.plain_heap.proofs.Objects.{reads_nothing}
use Rattle.plain_heap.proofs.LoadStore.{stores}
use Rattle.plain_heap.proofs.plain.PlainHeap.store.Goals as goal

pub returns-in_err-mutator-clause-step : goal.returns-in_err-mutator-clause-step
returns-in_err-mutator-clause-step c = rw (← c.self.view_is, handed_on _ _ _ c.from_residual.ensures.1 c.in_err-mutator.ensures.err.0) (refused_vacant _ _ _ c.in_err-mutator.ensures.err.1)

pub returns-then-address-ne0-clause-step : goal.returns-then-address-ne0-clause-step
returns-then-address-ne0-clause-step c =
    rw (← c.self.view_is)
    (keeps_all _ _ _ _ c.in_ok-mutator.mutator.now c.in_ok-mutator.ensures.ok (λ s h. Acts.store_misaligned (rw c.address-address.ensures at c.if-address-ne0.true)))

pub returns-in_err-find-clause-step : goal.returns-in_err-find-clause-step
returns-in_err-find-clause-step c =
    rw (← c.self.view_is, handed_on _ _ _ c.from_residual-in_err-find.ensures.1 c.in_err-find.ensures.err.0)
    (let at = c.in_ok-mutator.ensures.ok in
    let none = rw c.address-address.ensures at c.in_err-find.ensures.err.1 in
    keeps_all _ _ _ _ c.in_ok-mutator.mutator.now at (λ s h. Acts.store_nothing (rw c.address-address.ensures at c.if-address-ne0.false) (reads_nothing _ c.self.invariant.0 s h _ none)))

pub returns-clause-step : goal.returns-clause-step
returns-clause-step c =
    rw (← c.self.view_is, c.word_index-position.ensures, c.address-address.ensures, c.word-word.ensures)
    (stores _ _ _ _ _ c.in_ok-mutator.mutator.now _ c.self.invariant.0 c.in_ok-mutator.ensures.ok
    c.in_ok-find.ensures.ok.0
    (rw c.address-address.ensures at c.in_ok-find.ensures.ok.1)
    (rw c.address-address.ensures at c.if-address-ne0.false))
