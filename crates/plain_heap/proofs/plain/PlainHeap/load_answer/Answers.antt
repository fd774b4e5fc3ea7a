use Rattle.heap_spec.specs.Steps.{Acts}
use Rattle.plain_heap.proofs.Answering.{may_load}
use Rattle.plain_heap.proofs.plain.PlainHeap.load_answer.Goals as goal

pub returns-then-address-ne0 : goal.returns-then-address-ne0
returns-then-address-ne0 c into s h slot = (s, Acts.load_misaligned (rw c.address-address.ensures at c.if-address-ne0.true))

pub returns-in_default : goal.returns-in_default
returns-in_default c into s h slot = (s, Acts.load_nothing (rw c.address-address.ensures at c.if-address-ne0.false) (rw c.address-address.ensures at (c.in_default.ensures.none s h)))

pub returns : goal.returns
returns c into = may_load _ _ _ _ _ _ (rw c.address-address.ensures at c.if-address-ne0.false) (rw c.address-address.ensures at c.in-Some.ensures.some)
