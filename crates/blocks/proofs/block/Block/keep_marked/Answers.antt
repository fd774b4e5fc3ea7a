use Rattle.std.proofs.Common.{refl, inl, inr}
use Rattle.blocks.specs.Lists.{ends}
use Rattle.blocks.proofs.Begins.{begun_kept}
use Rattle.blocks.proofs.Lists.{when_true}
use Rattle.blocks.proofs.block.Block.keep_marked.Goals as goal
use Rattle.blocks.proofs.block.Block.keep_marked.Goals.{then-is_full, else-is_full}

pub returns-clause-sweeps : goal.returns-clause-sweeps
returns-clause-sweeps c = rw (← c.self.view_is)
    (begun_kept c.args.marks.now c.self.inside.granules c.keep.new.self c.args.page c.self.inside.class c.self.invariant.1 c.keep.ensures.size c.keep.ensures.kept c.keep.ensures.gone _ _ refl refl refl refl refl)

pub returns-clause-listed : goal.returns-clause-listed
returns-clause-listed c words = elim c.if-is_full.branch [
  | then-is_full w ↦ inr (ends _ _ w.self-is (when_true _ _ c.is_full.ensures w.if-is_full.true))
  | else-is_full w ↦ inl w.self-is
]
