use Rattle.block_map.specs.States.{IsCut}
use Rattle.std.proofs.Common.{subst, sym}
use Rattle.object_space.specs.Store.{Store}
use Rattle.object_space.proofs.AvailablePages.{available_inside}
use Rattle.object_space.proofs.Linked.{available_is, offers_linked, sweeps_linked, whole_linked}
use Rattle.lazy_sweep.specs.Sound.{store_with}
use Rattle.object_space.proofs.space.ObjectSpace.link_page.Goals as goal

pub link-requires-clause-inside : goal.link-requires-clause-inside
link-requires-clause-inside c = available_inside _ c.args.class c.args.kind c.args.page (rw (← c.self.view_is) at c.requires.cell)

pub link-requires-clause-cut : goal.link-requires-clause-cut
link-requires-clause-cut c = subst IsCut (sym (available_is _ c.args.class c.args.kind (rw (← c.self.view_is) at c.requires.cell)).is) tt

pub invariant_of-self : goal.invariant_of-self
invariant_of-self c =
    let t : Store = store_with c.self.inside.memory c.self.inside.table in
    let cell = rw (← c.self.view_is) at c.requires.cell in
    whole_linked t c.link.new.self c.link.new.memory c.args.page c.laws.ensures.laid (available_inside _ c.args.class c.args.kind c.args.page cell) (available_is _ c.args.class c.args.kind cell)
    c.link.ensures.states c.link.ensures.first _ _ c.self.invariant c.link.ensures.listed

pub returns-clause-sweeps : goal.returns-clause-sweeps
returns-clause-sweeps c marks =
    let t : Store = store_with c.self.inside.memory c.self.inside.table in
    let cell = rw (← c.self.view_is) at c.requires.cell in
    rw (← c.self.view_is)
    (sweeps_linked t c.link.new.self c.link.new.memory c.args.page c.laws.ensures.laid (available_inside _ c.args.class c.args.kind c.args.page cell) (available_is _ c.args.class c.args.kind cell)
    c.link.ensures.states c.link.ensures.first c.laws.ensures.lawful c.link.ensures.same c.link.ensures.memory marks)

pub returns-clause-cell : goal.returns-clause-cell
returns-clause-cell c = offers_linked _ _ c.args.class c.args.kind (rw (← c.self.view_is) at c.requires.cell) c.link.ensures.first
