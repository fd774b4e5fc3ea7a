use Rattle.std.proofs.Common.{sym, subst, ◌∙◌}
use Rattle.heap_spec.specs.declared.reply.Reply.TheVariants.{Count}
use Rattle.heap_spec.specs.Cycles.{CollectsFully}
use Rattle.plain_heap.specs.Standing.{StandsFor}
use Rattle.plain_heap.proofs.Forgets.{same_count}
use Rattle.plain_heap.proofs.plain.PlainHeap.collect_counted.Goals as goal

pub returns-then-count_unreached-count-clause-no : goal.returns-then-count_unreached-count-clause-no
returns-then-count_unreached-count-clause-no c refused s h s' full =
    let garbage = c.count_unreached.ensures.garbage s h in c.if-count_unreached-count.true (same_count s garbage.0 s' _ _ garbage.1 full)

pub returns-clause-yes : goal.returns-clause-yes
returns-clause-yes c done s h =
    let garbage = c.count_unreached.ensures.garbage s h in
    let x = c.collect-gone.ensures.collected s (subst (λ plain. StandsFor plain s) (sym c.count_unreached.ensures.same) h) in
    let same = same_count s x.0 garbage.0 _ _ x.1 garbage.1 ∙ c.if-count_unreached-count.false in
    (x.0, subst (λ n. CollectsFully s (Count n) x.0) same x.1, x.2)
