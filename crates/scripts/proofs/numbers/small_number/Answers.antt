use Rattle.scripts.proofs.Decimals.{past}
use Rattle.scripts.proofs.numbers.small_number.Goals as goal

pub returns-else-n-lt256 : goal.returns-else-n-lt256
returns-else-n-lt256 c = past 256 _ _ c.if-n-lt256.false c.in_ok-n.ensures.1 c.in_ok-n.ensures.0
