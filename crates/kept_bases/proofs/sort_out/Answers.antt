use Rattle.kept_bases.proofs.Sorts.{sorts_take}
use Rattle.kept_bases.proofs.sort_out.Goals as goal

pub loop-base-preserved : goal.loop-base-preserved
loop-base-preserved c = sorts_take _ _ _ _ _ _ _ _ c.loop-base-test.true c.loop-base.invariant c.in_ok-sort.ensures
