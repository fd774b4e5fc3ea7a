use Rattle.std.proofs.Common.{refl}
use Rattle.std.proofs.lemmas.List.Elements.{All-contains}
use Rattle.plain_heap.specs.Standing.{LiesIn}
use Rattle.plain_heap.proofs.Collects.{all_lie}
use Rattle.plain_heap.proofs.Flagging.{led_flagged, led_nothing, led_before, led_itself}
use Rattle.plain_heap.proofs.plain.PlainHeap.flag_led.Goals as goal

pub returns-in_default-clause-flags : goal.returns-in_default-clause-flags
returns-in_default-clause-flags c = rw (← c.self.view_is) (led_nothing _ c.self.invariant.0 _ _ c.in_default.ensures.none)

pub returns-then-is_flagged-clause-flags : goal.returns-then-is_flagged-clause-flags
returns-then-is_flagged-clause-flags c =
    let some = c.in-Some.ensures.some in
    rw (← c.self.view_is) (led_before _ c.self.invariant.0 _ _ c.in-Some.object some.0 some.1 (c.is_flagged.ensures.yes c.if-is_flagged.true))

pub has_no_links-requires : goal.has_no_links-requires
has_no_links-requires c = rw c.deref.ensures.value
    (All-contains (LiesIn c.self.inside.directory.origin c.self.inside.words.items) c.self.inside.directory.objects.items c.in-Some.object (all_lie _ c.self.invariant.0) c.in-Some.ensures.some.0)

pub returns-then-has_no_links-clause-flags : goal.returns-then-has_no_links-clause-flags
returns-then-has_no_links-clause-flags c =
    let some = c.in-Some.ensures.some in
    let none = rw c.deref.ensures.value at c.has_no_links.ensures c.if-has_no_links.true in
    rw (← c.self.view_is) (led_itself _ c.self.invariant.0 _ c.in-Some.object some.0 some.1 none _ _ c.set_flag.ensures)

pub returns-clause-flags : goal.returns-clause-flags
returns-clause-flags c = rw (← c.self.view_is)
    (led_flagged _ c.self.invariant.0 c.deref-3.result.now _ _ c.flag_marked.ensures _
    (rw (c.deref-2.ensures.value, ← c.deref-3.ensures.value) at c.list_closure.ensures.reached refl))
