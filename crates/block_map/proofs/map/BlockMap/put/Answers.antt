use Rattle.std.proofs.Common.{ap, ◌∙◌, length, length-set}
use Rattle.blocks.specs.Cells.{Cells}
use Rattle.block_map.proofs.Changing.{block_put}
use Rattle.block_map.proofs.Laid.{laid_cut}
use Rattle.block_map.proofs.Listed.{listed_set}
use Rattle.block_map.proofs.map.BlockMap.put.Goals as goal

pub invariant_of-self : goal.invariant_of-self
invariant_of-self c =
    let became = c.put.ensures.block in
    laid_cut _ c.args.page _ _ c.self.invariant (rw (← c.self.view_is) at c.requires.inside) c.block_mut-block.ensures.block (ap (λ (x : Cells). x.class) became) (ap (λ (x : Cells). length x.taken) became ∙ length-set _ _ _)

pub returns-clause-removed : goal.returns-clause-removed
returns-clause-removed c = rw (← c.self.view_is)
    (block_put _ c.args.page c.args.cell _ _ _ c.self.invariant (rw (← c.self.view_is) at c.requires.inside) c.block_mut-block.ensures.block (rw (← c.self.view_is) at c.requires.cell) (invariant_of-self c) c.put.ensures.block)

pub returns-clause-listed : goal.returns-clause-listed
returns-clause-listed c = listed_set _ _ _ c.args.page _ c.self.invariant (rw (← c.self.view_is) at c.requires.inside) (rw (← c.self.view_is) at c.requires.listed) c.put.ensures.changes c.put.ensures.listed
