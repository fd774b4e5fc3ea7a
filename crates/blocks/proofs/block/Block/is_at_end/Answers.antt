use Rattle.blocks.proofs.Lists.{full_or_free}
use Rattle.blocks.proofs.Begins.{begun_few}
use Rattle.blocks.proofs.block.Block.is_at_end.Goals as goal

pub returns-clause-full : goal.returns-clause-full
returns-clause-full c words page listed = rw (← c.self.view_is)
    (full_or_free _ _ _ (begun_few c.self.inside.granules c.self.inside.class c.self.invariant.0) (rw (← c.self.view_is) at listed))
