use Rattle.std.proofs.Common.{arith}
use Rattle.words.proofs.Counts.{count_small}
use Rattle.dirty_pages.proofs.Counting.{least_counted}
use Rattle.dirty_pages.proofs.summary.SummedWords.ones_below.Goals as goal

pub loop-j-preserved : goal.loop-j-preserved
loop-j-preserved c =
    let below = c.in-Some.ensures.below in
    (least_counted _ _ _ _ _ _ c.loop-j.invariant.0 c.in-Some.ensures c.at.ensures c.at.type_inv, omega arith)

pub overflow_add-count : goal.overflow_add-count
overflow_add-count c =
    let below = c.in-Some.ensures.below in let few = c.requires in
    let most = count_small _ _ _ _ (least_counted _ _ _ _ _ _ c.loop-j.invariant.0 c.in-Some.ensures c.at.ensures c.at.type_inv) in
    record { fits = omega arith }
