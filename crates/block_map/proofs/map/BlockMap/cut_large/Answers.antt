use Rattle.block_map.proofs.Laid.{laid_large}
use Rattle.block_map.proofs.map.BlockMap.cut_large.Goals as goal

pub invariant_of-self : goal.invariant_of-self
invariant_of-self c =
    laid_large _ _ _ _ _ c.self.invariant c.requires.some (rw c.self.view_is c.requires.free) c.fill_large.ensures
