use Rattle.std.proofs.Common.{refl, sym, ◌∙◌}
use Rattle.plain_heap.proofs.Lowest.{left_are, uncollected}
use Rattle.plain_heap.proofs.plain.PlainHeap.wrong_collected.Goals as goal

pub returns-clause-wrong : goal.returns-clause-wrong
returns-clause-wrong c =
    rw (← c.self.view_is)
    (uncollected _ c.self.invariant.0 c.deref-2.result.now
    (rw (c.deref.ensures.value, ← c.deref-2.ensures.value) at c.list.ensures.reached refl)
    c.args.bases.now c.lowest_named-named.new.stays.items c.lowest_named-named.ensures.unset _ _ _ c.lowest_named-named.ensures.wrong
    (left_are _ _ _ _ _ _ (c.deref-3.ensures.value ∙ sym c.deref-2.ensures.value) c.deref-4.ensures.value c.lowest_left-left.ensures)
    c.lower.ensures)
