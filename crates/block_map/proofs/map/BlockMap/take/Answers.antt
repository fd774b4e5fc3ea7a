use Rattle.std.proofs.Common.{sym, ap, ◌∙◌, subst, length, length-set}
use Rattle.blocks.specs.Cells.{Cells}
use Rattle.block_map.specs.FoundIn.{found_in}
use Rattle.block_map.specs.Changes.{IsAdded}
use Rattle.block_map.proofs.Changing.{block_taken}
use Rattle.block_map.proofs.Laid.{laid_cut}
use Rattle.block_map.proofs.map.BlockMap.take.Goals as goal

pub invariant_of-self-2 : goal.invariant_of-self-2
invariant_of-self-2 c =
    let became = c.in-Some.ensures.block in
    laid_cut _ c.args.page _ _ c.self.invariant (rw (← c.self.view_is) at c.requires.inside) c.block_mut-block.ensures.block (ap (λ (x : Cells). x.class) became) (ap (λ (x : Cells). length x.taken) became ∙ length-set _ _ _)

pub returns-clause-added : goal.returns-clause-added
returns-clause-added c = rw (← c.self.view_is) (subst (IsAdded (found_in c.self.inside.pages) _) (sym c.cell_at.ensures)
    (block_taken _ c.args.page c.in-Some.cell _ _ _ c.self.invariant (rw (← c.self.view_is) at c.requires.inside) c.block_mut-block.ensures.block c.in-Some.ensures.free c.in-Some.ensures.block))
