use Rattle.std.proofs.Common.{ap, ◌∙◌, set, arith, length-set}
use Rattle.block_map.proofs.Padding.{put_states, set_made, same_pages, page_fits}
use Rattle.block_map.specs.Shown.{shown}
use Rattle.block_map.proofs.page_list.PageList.put_page.Goals as goal

pub invariant_of-self : goal.invariant_of-self
invariant_of-self c =
    let few = c.make_until.ensures.few _ c.self.invariant.0 (page_fits _ _ _ _ c.self.invariant.0 c.self.view_is c.requires) in
    let size = length-set c.make_until.new.made.items c.args.page c.args.value in
    let room = c.make_until.ensures.room in
    (omega (arith, few, size), omega (arith, room, c.self.invariant.1), c.self.invariant.2, c.self.invariant.3)

pub returns : goal.returns
returns c = rw (← c.self.view_is)
    (set_made _ _ _ c.args.page _ (let ok = c.make_until.new.made.ok.0 in let lt = c.make_until.ensures.inside in omega arith) (put_states c.make_until.new.made.items c.args.page c.args.value)
    ∙ ap (λ m. set m c.args.page (shown c.args.value)) (same_pages _ _ _ c.self.invariant.0 (c.make_until.ensures.few _ c.self.invariant.0 (page_fits _ _ _ _ c.self.invariant.0 c.self.view_is c.requires)) c.make_until.ensures.same))
