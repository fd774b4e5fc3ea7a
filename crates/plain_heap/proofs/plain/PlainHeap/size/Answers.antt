use Rattle.heap_spec.specs.Steps.{Acts}
use Rattle.roots.proofs.Refusals.{handed_on}
use Rattle.plain_heap.proofs.Stands.{refused_vacant, keeps_all}
use Rattle.plain_heap.proofs.Objects.{reads_nothing}
use Rattle.plain_heap.proofs.LoadStore.{sizes}
use Rattle.plain_heap.proofs.plain.PlainHeap.size.Goals as goal

pub returns-in_err-mutator : goal.returns-in_err-mutator
returns-in_err-mutator c = rw (← c.self.view_is, handed_on _ _ _ c.from_residual.ensures.1 c.in_err-mutator.ensures.err.0) (refused_vacant _ _ _ c.in_err-mutator.ensures.err.1)

pub returns-in_err-object : goal.returns-in_err-object
returns-in_err-object c =
    rw (← c.self.view_is, handed_on _ _ _ c.from_residual-in_err-object.ensures.1 c.in_err-object.ensures.err.0)
    (let at = c.in_ok-mutator.ensures.ok in
    let none = rw c.word-word.ensures at c.in_err-object.ensures.err.1 in
    keeps_all _ _ _ _ c.in_ok-mutator.mutator.now at (λ s h. Acts.size_nothing (reads_nothing _ c.self.invariant.0 s h _ none)))

pub returns : goal.returns
returns c =
    rw (← c.self.view_is)
    (let has = c.in_ok-object.ensures.ok.0 in
    let reads = rw c.word-word.ensures at c.in_ok-object.ensures.ok.1 in
    sizes _ _ _ _ _ c.self.invariant.0 c.in_ok-mutator.ensures.ok has reads)
