use Rattle.std.proofs.Common.{refl, sym, ap, arith, length, ◌∙◌}
use Rattle.std.proofs.lemmas.List.{with_items_is}
use Rattle.plain_heap.proofs.Collects.{marks_room}
use Rattle.plain_heap.proofs.Lowest.{left_are, unforgotten}
use Rattle.plain_heap.proofs.plain.PlainHeap.wrong_forgotten.Goals as goal

pub lowest_left-left-requires-clause-marks : goal.lowest_left-left-requires-clause-marks
lowest_left-left-requires-clause-marks c =
    let room = marks_room c.self.inside.directory _ _ c.self.invariant.1.lists c.list.ensures.room in
    let long = c.mark_flagged.ensures.size ∙ ap length c.deref_mut.ensures.value in
    let same = with_items_is c.list.new.self.listing.marks c.mark_flagged.new.marks (long ∙ sym c.list.new.self.listing.marks.ok.0) in
    rw (c.deref-3.ensures.value, same) (omega (arith, long, room))

pub returns-clause-wrong : goal.returns-clause-wrong
returns-clause-wrong c =
    let long = c.mark_flagged.ensures.size ∙ ap length c.deref_mut.ensures.value in
    rw (← c.self.view_is)
    (unforgotten _ c.self.invariant.0 c.deref-2.result.now
    (rw (c.deref.ensures.value, ← c.deref-2.ensures.value) at c.list.ensures.reached refl)
    c.args.bases.now c.lowest_named-named.new.stays.items c.lowest_named-named.ensures.unset c.args.flags.now c.mark_flagged.new.marks c.mark_flagged.ensures.marked _ _ _ c.lowest_named-named.ensures.wrong
    (left_are _ _ _ _ _ _ (c.deref-3.ensures.value ∙ with_items_is c.list.new.self.listing.marks c.mark_flagged.new.marks (long ∙ sym c.list.new.self.listing.marks.ok.0)) c.deref-4.ensures.value c.lowest_left-left.ensures)
    c.lower.ensures)
