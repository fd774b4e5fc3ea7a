use Rattle.std.proofs.Common.{refl}
use Rattle.plain_heap.proofs.Pathing.{unlisted, told_path}
use Rattle.plain_heap.proofs.plain.PlainHeap.path_to.Goals as goal

pub returns-in_default-place_of-clause-path : goal.returns-in_default-place_of-clause-path
returns-in_default-place_of-clause-path c =
    rw (← c.self.view_is)
    (unlisted _ c.self.invariant.0 c.in-Some.own c.args.base c.in-Some.ensures.some c.list.new.self.listing.order.items c.list.new.self.listing.marks.items c.list.ensures.listed.listed
    (rw c.deref.ensures.value at c.list.ensures.reached refl) (rw c.deref-2.ensures.value at c.in_default-place_of.ensures.none))

pub returns-clause-path : goal.returns-clause-path
returns-clause-path c =
    let place = rw c.deref-2.ensures.value at c.in-Some-place_of.ensures.some in
    let leads = rw c.deref-3.ensures.value at c.in_ok-walk_back.ensures in
    rw (← c.self.view_is)
    (told_path _ c.self.invariant.0 c.in-Some.own c.args.base c.in-Some.ensures.some c.list.new.self.listing.order.items c.list.new.self.listing.marks.items c.list.ensures.listed.listed
    (rw c.deref.ensures.value at c.list.ensures.reached refl)
    c.in-Some-place_of.place place _ (rw c.reverse.ensures.items (leads c.in-Some.own place)))
