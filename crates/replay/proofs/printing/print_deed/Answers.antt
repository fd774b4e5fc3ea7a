use Rattle.replay.proofs.Says.{deed_said}
use Rattle.replay.proofs.printing.print_deed.Goals as goal

pub returns : goal.returns
returns g c = deed_said c.print_way.result _ _ _ _ _ c.in_ok-print_about.ensures c.print_way.ensures
