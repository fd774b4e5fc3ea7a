use Rattle.std.proofs.Common.{refl, ◌∙◌}
use Rattle.block_map.proofs.Padding.{cut_made, made_at, set_block}
use Rattle.block_map.proofs.page_list.PageList.block_mut.Goals as goal

pub returns : goal.returns
returns c =
    let made = cut_made _ _ c.args.page (rw (← c.self.view_is) at c.requires) in
    ((refl, λ w. rw (← c.self.view_is) (set_block _ _ _ w made)), record { lends = tt; block = rw (← c.self.view_is) (made_at _ _ _ _ made c.index_mut-what.ensures.value ∙ c.block_mut.ensures.block) })
