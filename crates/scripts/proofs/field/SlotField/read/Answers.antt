use Rattle.std.proofs.Common.{lit≤}
use Rattle.scripts.proofs.Decimals.{limited}
use Rattle.scripts.proofs.field.SlotField.read.Goals as goal

pub returns : goal.returns
returns c = limited 16 _ _ _ (lit≤ tt) c.in_ok-n.ensures.1 c.in_ok-n.ensures.0 c.new.ensures
