use Rattle.words.proofs.Sets.{has_inside}
use Rattle.words.proofs.laws.members_are_inside.Goals as goal

pub returns : goal.returns
returns c = has_inside
