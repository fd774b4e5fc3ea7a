use Rattle.std.proofs.Common.{◌≡◌, length, subst, arith}
use Rattle.plain_heap.specs.Wrongs.{TellsLowest, IsBelow, IsLeftAt}
use Rattle.plain_heap.proofs.Lowest.{below_one}
use Rattle.plain_heap.proofs.directory.Directory.lowest_left.Goals as goal

pub loop-index-preserved : goal.loop-index-preserved
loop-index-preserved c = below_one _ _ _ _ _ c.loop-index.invariant c.left_at.ensures c.lower-lowest.ensures

pub returns : goal.returns
returns c =
    let whole : c.loop-index.index ≡ length c.args.self.now.objects.items = omega arith in
    subst (λ k. TellsLowest (IsBelow (IsLeftAt c.args.self.now.objects.items c.args.marks.now c.args.stays.now) k) c.loop-index.lowest) whole c.loop-index.invariant
