use Rattle.std.proofs.Common.{◌%◌, ap, ◌∙◌}
use Rattle.heap_history.proofs.Passing.{own_count}
use Rattle.shared.proofs.heap.SharedHeap.gc_no_of.Goals as goal

pub returns-clause-count : goal.returns-clause-count
returns-clause-count g c =
    let f = c.count.ensures in
    f.count ∙ ap (λ n. n % 18446744073709551616) (own_count c.count.new.pass.seen c.count.new.pass.mine c.count.new.pass.slot (ap (λ p. p.slot) f.pass ∙ c.collector.invariant) f.agrees.owned f.agrees.legal)
