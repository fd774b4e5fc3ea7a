use Rattle.blocks.proofs.Begins.{begun_empty}
use Rattle.blocks.proofs.block.Block.is_empty.Goals as goal

pub returns : goal.returns
returns c = rw (← c.self.view_is) (begun_empty c.self.inside.granules c.self.inside.class c.self.invariant.0 c.self.invariant.1 c.is_empty.result c.is_empty.ensures)
