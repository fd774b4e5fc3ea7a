use Rattle.std.proofs.Common.{◌<◌, length, arith}
use Rattle.plain_heap.proofs.Stays.{kept_counts, kept_passes}
use Rattle.plain_heap.proofs.directory.Directory.count_unflagged.Goals as goal
use Rattle.plain_heap.proofs.directory.Directory.count_unflagged.Goals.{then-flags-index, else-flags-index}

pub loop-index-preserved : goal.loop-index-preserved
loop-index-preserved c =
    let lt : c.loop-index.index < length c.args.self.now.objects.items = let n = c.len-count.ensures in let less = c.loop-index-test.true in omega arith in
    elim c.if-flags-index.branch [
      | then-flags-index w ↦ rw w.stay-is (kept_counts _ _ _ _ _ c.loop-index.invariant.1 lt w.if-flags-index.true)
      | else-flags-index w ↦ rw w.stay-is (c.loop-index.invariant.0, kept_passes _ _ _ _ _ c.loop-index.invariant.1 lt w.if-flags-index.false)
    ]
