use Rattle.block_map.proofs.Lawful.{map_laws}
use Rattle.block_map.proofs.map.BlockMap.laws.Goals as goal

pub returns-clause-lawful : goal.returns-clause-lawful
returns-clause-lawful c = map_laws _ (rw c.self.view_is at c.self.invariant)
