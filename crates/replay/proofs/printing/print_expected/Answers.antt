use Rattle.replay.proofs.Says.{says_none, says_one}
use Rattle.replay.proofs.printing.print_expected.Goals as goal

pub returns-in_default : goal.returns-in_default
returns-in_default g c = says_none _ _

pub returns : goal.returns
returns g c = says_one c.print_about.result _ _ _ _ c.print_about.ensures
