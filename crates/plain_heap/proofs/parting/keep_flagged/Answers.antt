use Rattle.std.proofs.Common.{◌<◌, length, arith}
use Rattle.plain_heap.proofs.Stays.{kept_stays, kept_passes, kept_apart, kept_all}
use Rattle.plain_heap.proofs.parting.keep_flagged.Goals as goal
use Rattle.plain_heap.proofs.parting.keep_flagged.Goals.{then-flags-index, else-flags-index}

pub loop-index-preserved : goal.loop-index-preserved
loop-index-preserved c =
    let lt : c.loop-index.index < length c.args.objects.now.items = let less = c.loop-index-test.true in let count = c.len-count.ensures in omega (arith, c.args.objects.now.ok.0) in
    elim c.if-flags-index.branch [
      | then-flags-index w ↦ rw (w.objects-is, w.stay-is) (
        kept_stays _ _ _ _ _ w.index.result.now c.loop-index.invariant.0 lt w.index.ensures w.if-flags-index.true,
        λ apart. kept_apart _ _ _ _ _ w.index.result.now c.loop-index.invariant.0 lt w.index.ensures apart (c.loop-index.invariant.1 apart),
      )
      | else-flags-index w ↦ rw (w.objects-is, w.stay-is) (kept_passes _ _ _ _ _ c.loop-index.invariant.0 lt w.if-flags-index.false, c.loop-index.invariant.1)
    ]

pub returns-clause-parts : goal.returns-clause-parts
returns-clause-parts c =
    let n = c.len-count.ensures in
    let past = c.loop-index-test.false in
    let ends = c.loop-index.auto.index-end in
    let number = c.loop-index.invariant.0.number in
    rw c.truncate.ensures.items (kept_all _ _ c.loop-index.index _ c.len-count.result _ (omega (arith, c.args.objects.now.ok.0)) (omega arith) c.loop-index.invariant.0 _ (omega arith))
