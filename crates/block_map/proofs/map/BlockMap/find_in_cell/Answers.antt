use Rattle.std.proofs.Common.{ap, ◌∙◌}
use Rattle.words.proofs.Addresses.{on_its_page}
use Rattle.block_map.specs.Shown.{shown}
use Rattle.block_map.proofs.Finding.{on_cut}
use Rattle.block_map.proofs.map.BlockMap.find_in_cell.Goals as goal

pub returns-in-Cut-clause-found : goal.returns-in-Cut-clause-found
returns-in-Cut-clause-found c =
    on_cut c.args.self.now c.page_of-page.result c.args.w c.in-Cut.block c.find_in_block.result
    (rw c.page_of-page.ensures (on_its_page c.args.w c.requires.above)) (c.page.ensures.state ∙ ap shown c.in-Cut.is) c.find_in_block.ensures.found
