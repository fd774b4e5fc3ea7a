use Rattle.std.proofs.Common.{arith}
use Rattle.block_map.proofs.Finding.{block_on_page}
use Rattle.block_map.proofs.look.object_in_block.Goals as goal

pub returns-clause-on_page : goal.returns-clause-on_page
returns-clause-on_page c =
    let h = block_on_page c.args.page c.args.base c.args.block.now c.cell_under.ensures.cells c.requires.base in
    let words = c.words.ensures.value in let class = c.class.ensures.class in let len = c.from.ensures in
    omega (arith, h, words, class, len)
