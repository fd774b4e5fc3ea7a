use Rattle.std.proofs.Common.{refl, sym, ◌∙◌}
use Rattle.blocks.proofs.Begins.{begun_at, begun_not_at}
use Rattle.blocks.proofs.block.Block.taken_from.Goals as goal

pub returns-then-is_set-clause-cell : goal.returns-then-is_set-clause-cell
returns-then-is_set-clause-cell c =
    rw (c.cell_at.ensures, ← c.self.view_is) (begun_at c.self.inside.granules c.self.inside.class c.self.invariant.0 c.self.invariant.1 _ c.args.granule refl refl (sym c.is_set.ensures ∙ c.if-is_set.true))

pub returns-else-is_set-clause-cell : goal.returns-else-is_set-clause-cell
returns-else-is_set-clause-cell c =
    rw (← c.self.view_is) (begun_not_at c.self.inside.granules c.self.inside.class c.self.invariant.0 c.self.invariant.1 _ c.args.granule refl refl (sym c.is_set.ensures ∙ c.if-is_set.false))
