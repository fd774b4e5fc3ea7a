use Rattle.heap_spec.specs.Steps.{Acts}
use Rattle.roots.proofs.Refusals.{handed_on}
use Rattle.plain_heap.proofs.Stands.{refused_vacant, keeps_all, sets_register}
use Rattle.plain_heap.proofs.Objects.{reads_nothing, reads_object}
use Rattle.plain_heap.proofs.plain.PlainHeap.base.Goals as goal

pub returns-in_err-mutator-clause-step : goal.returns-in_err-mutator-clause-step
returns-in_err-mutator-clause-step c = rw (← c.self.view_is, handed_on _ _ _ c.from_residual.ensures.1 c.in_err-mutator.ensures.err.0) (refused_vacant _ _ _ c.in_err-mutator.ensures.err.1)

pub returns-in_err-object-clause-step : goal.returns-in_err-object-clause-step
returns-in_err-object-clause-step c =
    rw (← c.self.view_is, handed_on _ _ _ c.from_residual-in_err-object.ensures.1 c.in_err-object.ensures.err.0)
    (let at = c.in_ok-mutator.ensures.ok in
    let none = rw c.word-word.ensures at c.in_err-object.ensures.err.1 in
    keeps_all _ _ _ _ c.in_ok-mutator.mutator.now at (λ s h. Acts.base_nothing (reads_nothing _ c.self.invariant.0 s h _ none)))

pub returns-clause-step : goal.returns-clause-step
returns-clause-step c =
    rw (← c.self.view_is)
    (let has = c.in_ok-object.ensures.ok.0 in
    let reads = rw c.word-word.ensures at c.in_ok-object.ensures.ok.1 in
    sets_register _ _ _ _ _ c.in_ok-mutator.mutator.now _ _ c.in_ok-mutator.ensures.ok c.set_word.ensures (λ s h. Acts.based (reads_object _ c.self.invariant.0 s h _ has _ reads).1))
