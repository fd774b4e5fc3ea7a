use Rattle.std.proofs.Common.{false, get_or, sym, ap, ◌∙◌}
use Rattle.blocks.specs.Cells.{Cells}
use Rattle.blocks.proofs.Begins.{get_or-begun, in_page}
use Rattle.blocks.proofs.block.Block.is_taken.Goals as goal

pub returns : goal.returns
returns c =
    let lt = in_page c.self.inside.granules c.args.self.now.taken c.self.inside.class c.args.cell (ap (λ (x : Cells). x.taken) c.self.view_is) c.requires in
    c.is_set.ensures
    ∙ ap (λ k. get_or c.self.inside.granules k false) c.granule_at.ensures.at
    ∙ sym (get_or-begun c.self.inside.granules c.self.inside.class c.args.cell false lt)
    ∙ ap (λ (x : Cells). get_or x.taken c.args.cell false) c.self.view_is
