use Rattle.std.proofs.Common.{◌∙◌}
use Rattle.heap_spec.specs.Steps.{Acts}
use Rattle.plain_heap.proofs.Answering.{may_free}
use Rattle.plain_heap.proofs.plain.PlainHeap.free_answer.Goals as goal

pub returns-in_default : goal.returns-in_default
returns-in_default c s h slot = (s, Acts.free_nothing (rw c.word-address.ensures at (c.in_default.ensures.none s h)))

pub returns-then-object-address : goal.returns-then-object-address
returns-then-object-address c s h slot =
    let found = rw c.word-address.ensures at (c.in-Some.ensures.some s h) in
    (s, Acts.free_inside found.1 (rw c.word-address.ensures at c.if-object-address.true))

pub returns : goal.returns
returns c = may_free _ _ _ c.in-Some.object (c.if-object-address.false ∙ c.word-address.ensures) (rw c.word-address.ensures at c.in-Some.ensures.some)
