use Rattle.replay.proofs.Says.{says_one}
use Rattle.replay.proofs.printing.print_step.Goals as goal

pub returns-then-way-at-gt-ENDS : goal.returns-then-way-at-gt-ENDS
returns-then-way-at-gt-ENDS g c = says_one c.print_about.result _ _ _ _ c.print_about.ensures

pub returns : goal.returns
returns g c = says_one c.print_about-2.result _ _ _ _ c.print_about-2.ensures
