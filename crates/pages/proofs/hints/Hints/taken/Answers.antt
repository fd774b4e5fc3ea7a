use Rattle.pages.proofs.Searches.{hints_taken, hints_one, hints_several}
use Rattle.pages.proofs.hints.Hints.taken.Goals as goal

pub returns-then-n-eq1 : goal.returns-then-n-eq1
returns-then-n-eq1 c old new are run filled = hints_one _ _ _ _ _ are run filled c.if-n-eq1.true

pub returns-then-n-gt1 : goal.returns-then-n-gt1
returns-then-n-gt1 c old new are run filled = hints_several _ _ _ _ _ are run filled c.if-n-gt1.true

pub returns-else-n-gt1 : goal.returns-else-n-gt1
returns-else-n-gt1 c old new are run filled = hints_taken _ _ _ _ _ are run filled
