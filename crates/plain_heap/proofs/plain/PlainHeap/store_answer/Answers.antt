use Rattle.heap_spec.specs.Steps.{Acts}
use Rattle.plain_heap.proofs.plain.PlainHeap.store_answer.Goals as goal

pub returns-then-address-ne0 : goal.returns-then-address-ne0
returns-then-address-ne0 c from s h slot = (s, Acts.store_misaligned (rw c.address-address.ensures at c.if-address-ne0.true))

pub returns-in_default : goal.returns-in_default
returns-in_default c from s h slot = (s, Acts.store_nothing (rw c.address-address.ensures at c.if-address-ne0.false) (rw c.address-address.ensures at (c.in_default.ensures.none s h)))

pub returns : goal.returns
returns c from s h slot =
    let found = rw c.address-address.ensures at (c.in-Some.ensures.some s h) in
    (_, Acts.stored (rw c.address-address.ensures at c.if-address-ne0.false) found.1)
