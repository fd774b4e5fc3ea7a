use Rattle.heap_spec.specs.Steps.{Acts}
use Rattle.plain_heap.proofs.Answering.{may_size}
use Rattle.plain_heap.proofs.plain.PlainHeap.size_answer.Goals as goal

pub returns-in_default : goal.returns-in_default
returns-in_default c s h slot = (s, Acts.size_nothing (rw c.word-word.ensures at (c.in_default.ensures.none s h)))

pub returns : goal.returns
returns c = may_size _ _ _ c.in-Some.object (rw c.word-word.ensures at c.in-Some.ensures.some)
