use Rattle.words.proofs.Sets.{has_cleared}
use Rattle.words.proofs.laws.clear_takes_one.Goals as goal

pub returns : goal.returns
returns c = has_cleared
