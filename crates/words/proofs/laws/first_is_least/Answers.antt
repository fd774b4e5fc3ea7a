use Rattle.words.proofs.Sets.{first_least, none_before}
use Rattle.words.proofs.laws.first_is_least.Goals as goal

pub returns : goal.returns
returns c = record { first = λ row low i f. (f.member, f.from); least = first_least; none = none_before }
