use Rattle.std.proofs.Common.{◌<◌, ap, ◌∙◌, arith}
use Rattle.blocks.specs.Cells.{Cells}
use Rattle.blocks.specs.Lists.{cell_start}
use Rattle.blocks.proofs.FreeWords.{word_end, word_more}
use Rattle.blocks.proofs.Begins.{granules_some}
use Rattle.blocks.proofs.Lists.{free_more, free_none}
use Rattle.blocks.proofs.Tops.{low_all, low_more, top_is, top_less}
use Rattle.blocks.proofs.block.Block.link_word.Goals as goal

pub loop-rest-init : goal.loop-rest-init
loop-rest-init c = (free_none _ c.args.page c.args.self.now.class c.args.self.now.taken, 64, low_all _, c.requires.linked)

pub loop-rest-smaller : goal.loop-rest-smaller
loop-rest-smaller c =
    let some : 0 < c.loop-rest.rest = (let ne = c.loop-rest-test.true in omega arith) in
    top_less _ _ (omega arith) (top_is _ some (omega arith))

pub loop-rest-preserved : goal.loop-rest-preserved
loop-rest-preserved c =
    let h = c.loop-rest.invariant in
    let cells = c.free_word-free.ensures.cells in
    let some : 0 < c.loop-rest.rest = (let ne = c.loop-rest-test.true in omega arith) in
    let t = top_is _ some (omega arith) in
    let more = word_more _ _ c.args.page c.args.self.now.class c.args.self.now.taken c.args.j _ c.loop-rest.rest h.1 c.loop-rest.next _ _ _ _ cells.class (let has = c.requires.has in let size = h.0.size in omega arith) cells.size
    c.free_word-free.ensures.free h.2 h.3 (omega arith) t c.cell_at-cell.ensures (c.start_of.ensures ∙ ap (λ (x : Cells). cell_start c.args.page x.class c.cell_at-cell.result) c.self.view_is) c.from.ensures c.write.ensures in (
      free_more _ _ _ c.args.page c.args.self.now.class c.args.self.now.taken h.0 more.1,
      _,
      low_more _ _ (omega arith) t _ h.1 h.2,
      more.0,
    )

pub returns-clause-linked : goal.returns-clause-linked
returns-clause-linked c =
    let h = c.loop-rest.invariant in
    word_end c.args.self.now.taken _ c.args.j _ (granules_some _ c.free_word-free.ensures.cells.class) c.free_word-free.ensures.free _ c.loop-rest.rest h.1 c.loop-rest.next h.2 h.3 c.loop-rest-test.false
