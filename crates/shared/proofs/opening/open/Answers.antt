use Rattle.shared.proofs.Passing.{opening_stands}
use Rattle.shared.proofs.opening.open.Goals as goal

pub open-requires : goal.open-requires
open-requires c = let new = c.in_ok-core.ensures in opening_stands _ _ _ c.from.ensures new.0 new.1
