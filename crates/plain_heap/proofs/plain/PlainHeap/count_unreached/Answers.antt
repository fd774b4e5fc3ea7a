use Rattle.std.proofs.Common.{refl}
use Rattle.plain_heap.proofs.Collects.{garbage}
use Rattle.plain_heap.proofs.plain.PlainHeap.count_unreached.Goals as goal

pub returns-clause-garbage : goal.returns-clause-garbage
returns-clause-garbage c = rw (← c.self.view_is)
    (garbage _ c.self.invariant.0 c.deref-2.result.now
    (rw (c.deref.ensures.value, ← c.deref-2.ensures.value) at c.list.ensures.reached refl)
    c.count_unflagged.ensures.0 c.count_unflagged.result c.count_unflagged.ensures.1)
