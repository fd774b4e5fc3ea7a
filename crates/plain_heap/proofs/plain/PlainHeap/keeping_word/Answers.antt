use Rattle.std.proofs.Common.{refl}
use Rattle.std.specs.Prelude.{Some, None}
use Rattle.plain_heap.proofs.Collects.{in_row}
use Rattle.plain_heap.proofs.Keeping.{kept_in_list}
use Rattle.plain_heap.proofs.plain.PlainHeap.keeping_word.Goals as goal

pub link_into-requires-clause-below : goal.link_into-requires-clause-below
link_into-requires-clause-below c = rw c.deref-2.ensures.value c.list.ensures.listed.listed.below

pub returns-in_default-clause-keeper : goal.returns-in_default-clause-keeper
returns-in_default-clause-keeper c =
    rw (← c.self.view_is)
    (kept_in_list _ c.self.invariant.0 c.args.own c.args.object (rw (← c.self.view_is) at c.requires.there) c.list.new.self.listing.order.items c.list.new.self.listing.marks.items c.list.ensures.listed.listed
    (rw c.deref.ensures.value at c.list.ensures.reached refl)
    (rw (← c.self.view_is) at c.requires.rootless)
    None tt
    (rw (c.deref-2.ensures.value, c.deref-3.ensures.value) at c.in_default.ensures.none))

pub returns-clause-keeper : goal.returns-clause-keeper
returns-clause-keeper c =
    let found = rw (c.deref-2.ensures.value, c.deref-3.ensures.value) at c.in-Some.ensures.some in
    rw (← c.self.view_is)
    (kept_in_list _ c.self.invariant.0 c.args.own c.args.object (rw (← c.self.view_is) at c.requires.there) c.list.new.self.listing.order.items c.list.new.self.listing.marks.items c.list.ensures.listed.listed
    (rw c.deref.ensures.value at c.list.ensures.reached refl)
    (rw (← c.self.view_is) at c.requires.rootless)
    (Some c.in-Some.keeper) (found.0, in_row _ _ found.0 found.1, found.2) tt)
