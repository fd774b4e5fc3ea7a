use Rattle.heap_spec.specs.Steps.{Acts}
use Rattle.plain_heap.proofs.plain.PlainHeap.base_answer.Goals as goal

pub returns-in_default : goal.returns-in_default
returns-in_default c into s h slot = (s, Acts.base_nothing (rw c.word-word.ensures at (c.in_default.ensures.none s h)))

pub returns : goal.returns
returns c into s h slot = let found = rw c.word-word.ensures at (c.in-Some.ensures.some s h) in (_, Acts.based found.1)
