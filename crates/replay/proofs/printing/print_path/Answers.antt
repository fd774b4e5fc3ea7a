use Rattle.replay.proofs.Says.{says_none, says_more}
use Rattle.replay.proofs.printing.print_path.Goals as goal

pub loop-at-init : goal.loop-at-init
loop-at-init g c = says_none _ _

pub loop-at-preserved : goal.loop-at-preserved
loop-at-preserved g c = says_more _ _ _ _ c.loop-at.invariant c.in_ok-print_step.ensures
