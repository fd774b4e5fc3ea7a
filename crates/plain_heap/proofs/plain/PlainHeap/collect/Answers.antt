use Rattle.std.proofs.Common.{◌≡◌, length, sym, ap, ◌∙◌, refl}
use Rattle.std.proofs.lemmas.List.{with_items_is}
use Rattle.plain_heap.proofs.Collects.{collects, room_kept}
use Rattle.plain_heap.proofs.Free.{rest_sound, along_of}
use Rattle.plain_heap.proofs.plain.PlainHeap.collect.Goals as goal

pub invariant_of-self : goal.invariant_of-self
invariant_of-self c =
    let long : length c.take_along.new.words ≡ length c.self.inside.words.items = c.take_along.auto.words ∙ ap length c.deref_mut.ensures.value in
    let kept = ap length (with_items_is c.self.inside.words c.take_along.new.words (long ∙ sym c.self.inside.words.ok.0)) ∙ long in (
      rw c.keep_flagged-count.ensures.origin (rest_sound _ c.self.invariant.0 c.keep_flagged-count.ensures.parts.gone _ c.keep_flagged-count.ensures.parts.all _ _ kept),
      rw c.keep_flagged-count.ensures.words (record { owned = kept ∙ c.self.invariant.1.owned; lists = room_kept _ _ _ c.self.invariant.1.lists c.list.ensures.room; flags = c.self.invariant.1.flags }),
    )

pub returns-clause-collected : goal.returns-clause-collected
returns-clause-collected c = rw (← c.self.view_is, c.keep_flagged-count.ensures.origin)
    (collects _ c.self.invariant.0 c.deref-2.result.now
    (rw (c.deref.ensures.value, ← c.deref-2.ensures.value) at c.list.ensures.reached refl)
    _ _ c.keep_flagged-count.ensures.parts _ _
    (along_of _ _ _ _ _ _ c.deref_mut.ensures.value (with_items_is c.self.inside.words c.take_along.new.words (c.take_along.auto.words ∙ ap length c.deref_mut.ensures.value ∙ sym c.self.inside.words.ok.0))
    (rw c.keep_flagged-count.ensures.origin at c.take_along.ensures.words) c.take_along.ensures.links))
