use Rattle.words.proofs.Sets.{has_set}
use Rattle.words.proofs.laws.set_adds_one.Goals as goal

pub returns : goal.returns
returns c = has_set
