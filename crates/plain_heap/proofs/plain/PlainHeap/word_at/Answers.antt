use Rattle.plain_heap.proofs.Objects.{reads_nothing}
use Rattle.plain_heap.proofs.Answering.{holds_word}
use Rattle.plain_heap.proofs.plain.PlainHeap.word_at.Goals as goal

pub returns-in_err-object_at-clause-none : goal.returns-in_err-object_at-clause-none
returns-in_err-object_at-clause-none c = rw (← c.self.view_is, c.from_residual.ensures) (λ s h. reads_nothing _ c.self.invariant.0 s h _ (c.in_err-object_at.ensures.none))

pub returns-clause-some : goal.returns-clause-some
returns-clause-some c = rw (← c.self.view_is)
    (holds_word _ _ _ _ c.self.invariant.0 c.in_ok-object_at.ensures.some.0 c.in_ok-object_at.ensures.some.1 (rw c.word_index-position.ensures at c.index.ensures))
