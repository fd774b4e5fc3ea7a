use Rattle.std.proofs.Common.{refl, sym, ap, ◌∙◌, arith}
use Rattle.words.specs.Layout.{page_of}
use Rattle.block_map.specs.Shown.{shown}
use Rattle.block_map.proofs.Finding.{head_object, on_cut}
use Rattle.block_map.proofs.Bases.{HasBase, has_base, cut_base, head_base}
use Rattle.block_map.proofs.map.BlockMap.object_at.Goals as goal
use Rattle.block_map.proofs.map.BlockMap.object_at.Goals.{After-page_of-page}

pub page_of-page-requires : goal.page_of-page-requires
page_of-page-requires c = (has_base c.args.self.now (page_of c.args.base) c.args.base c.laws.ensures.lawful refl c.requires.base).low

has : (c : After-page_of-page) → HasBase c.args.self.now c.page_of-page.result c.args.base
has c = has_base c.args.self.now c.page_of-page.result c.args.base c.laws.ensures.lawful c.page_of-page.ensures c.requires.base

pub overflow_cast-page : goal.overflow_cast-page
overflow_cast-page c = let few = c.laws.ensures.small in let h = (has (goal.at.overflow_cast-page c).After-page_of-page).inside in omega arith

pub page-requires : goal.page-requires
page-requires c = (has (goal.at.page-requires c).After-page_of-page).inside

pub object_in_block-requires-clause-page : goal.object_in_block-requires-clause-page
object_in_block-requires-clause-page c = let few = c.laws.ensures.small in let h = (has (goal.at.object_in_block-requires-clause-page c).After-page_of-page).inside in omega arith

pub object_in_block-requires-clause-base : goal.object_in_block-requires-clause-base
object_in_block-requires-clause-base c =
    cut_base c.args.self.now c.page_of-page.result c.args.base (has (goal.at.object_in_block-requires-clause-base c).After-page_of-page) c.in-Cut.block (c.page.ensures.state ∙ ap shown c.in-Cut.is)

pub returns-in-Cut-clause-object : goal.returns-in-Cut-clause-object
returns-in-Cut-clause-object c =
    sym (on_cut c.args.self.now c.page_of-page.result c.args.base c.in-Cut.block _ (has (goal.at.returns-in-Cut-clause-object c).After-page_of-page).on (c.page.ensures.state ∙ ap shown c.in-Cut.is) (sym c.object_in_block.ensures.object))

pub large-requires : goal.large-requires
large-requires c =
    let h = has (goal.at.large-requires c).After-page_of-page in
    record { inside = h.inside; head = head_base c.args.self.now c.page_of-page.result c.args.base h c.laws.ensures.laid c.page.result.now c.page.ensures.state c.in_default.not-Cut }

pub returns : goal.returns
returns c =
    let h = has (goal.at.returns c).After-page_of-page in
    let is = head_base c.args.self.now c.page_of-page.result c.args.base h c.laws.ensures.laid c.page.result.now c.page.ensures.state c.in_default.not-Cut in
    let o = head_object c.args.self.now c.page_of-page.result c.args.base is.0 is.1 c.large.result h.on is.2 c.large.ensures in
    record { object = o.0; on_page = o.1 }
