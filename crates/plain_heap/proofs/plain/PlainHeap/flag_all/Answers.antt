use Rattle.std.proofs.Common.{false, refl, arith}
use Rattle.plain_heap.proofs.Aging.{all_set}
use Rattle.plain_heap.proofs.plain.PlainHeap.flag_all.Goals as goal

pub returns-clause-flags : goal.returns-clause-flags
returns-clause-flags c = all_set _ c.laws.ensures _ (λ k lt. c.fill.ensures.clones k false (let size = c.fill.ensures.len in omega arith) refl)
