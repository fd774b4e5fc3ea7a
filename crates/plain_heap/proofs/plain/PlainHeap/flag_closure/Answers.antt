use Rattle.std.proofs.Common.{false, refl, arith}
use Rattle.plain_heap.proofs.Lists.{none_set}
use Rattle.plain_heap.proofs.Aging.{closure_flagged}
use Rattle.plain_heap.proofs.plain.PlainHeap.flag_closure.Goals as goal

pub returns-clause-flags : goal.returns-clause-flags
returns-clause-flags c = rw (← c.self.view_is)
    (closure_flagged _ c.self.invariant.0 c.args.aged.now c.deref-2.result.now _ _ c.flag_marked.ensures (none_set _ (λ k lt. c.fill.ensures.clones k false (let size = c.fill.ensures.len in omega arith) refl))
    (rw (c.deref.ensures.value, ← c.deref-2.ensures.value) at c.list.ensures.marks))
