use Rattle.std.proofs.Common.{◌%◌, ◌∙◌}
use Rattle.words.specs.declared.limits.TheConstants.{PAGE_BYTES}
use Rattle.blocks.proofs.Begins.{granule_of_byte}
use Rattle.blocks.proofs.block.Block.cell_under.Goals as goal

pub returns-clause-cell : goal.returns-clause-cell
returns-clause-cell c = c.cell_at.ensures ∙ granule_of_byte c.args.self.now.class (c.args.address % PAGE_BYTES) c.class-class.ensures.cells.class
