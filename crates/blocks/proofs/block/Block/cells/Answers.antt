use Rattle.std.proofs.Common.{length, sym, ap, ◌∙◌}
use Rattle.blocks.specs.Cells.{Cells}
use Rattle.blocks.proofs.Begins.{length-begun}
use Rattle.blocks.proofs.block.Block.cells.Goals as goal

pub returns : goal.returns
returns c = c.cells.ensures.value ∙ sym (ap (λ (x : Cells). length x.taken) (sym c.self.view_is) ∙ length-begun c.self.inside.granules c.self.inside.class)
