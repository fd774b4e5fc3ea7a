use Rattle.std.proofs.Common.{ap, ◌∙◌}
use Rattle.words.proofs.Addresses.{on_its_page}
use Rattle.block_map.specs.Shown.{shown}
use Rattle.block_map.proofs.Bases.{found_begun}
use Rattle.block_map.proofs.map.BlockMap.base_in_cell.Goals as goal

pub object_begun-requires-clause-on : goal.object_begun-requires-clause-on
object_begun-requires-clause-on c = rw c.page_of-page.ensures (on_its_page c.args.w c.requires.above)

pub returns-in-Some-Cut-clause-found : goal.returns-in-Some-Cut-clause-found
returns-in-Some-Cut-clause-found c =
    found_begun c.args.self.now c.page_of-page.result c.args.w c.in-Some-Cut.block c.object_begun.result
    (rw c.page_of-page.ensures (on_its_page c.args.w c.requires.above)) (c.in-Some-Cut.ensures.some ∙ ap shown c.in-Some-Cut.field-0-is) c.object_begun.ensures.object
