use Rattle.replay.proofs.Says.{all_said}
use Rattle.replay.proofs.printing.print_broken.Goals as goal

pub returns : goal.returns
returns g c = all_said c.print_wrong.result _ _ _ _ _ _ _ c.in_ok-print_deed.ensures c.in_ok-print_about.ensures c.in_ok-print_expected.ensures c.print_wrong.ensures
