use Rattle.std.proofs.Common.{◌≡◌, length, sym, ap, ◌∙◌}
use Rattle.std.proofs.lemmas.List.{with_items_is}
use Rattle.std.proofs.lemmas.Option.{same_Some}
use Rattle.heap_spec.specs.Steps.{Acts}
use Rattle.plain_heap.specs.declared.extent.Extent.{Extent}
use Rattle.roots.proofs.Refusals.{handed_on, handed_on_none}
use Rattle.plain_heap.proofs.Stands.{refused_vacant, keeps_all}
use Rattle.plain_heap.proofs.Objects.{reads_nothing}
use Rattle.plain_heap.proofs.Free.{refuses_inside, remove_sound, removes, along_of}
use Rattle.plain_heap.proofs.plain.PlainHeap.free.Goals as goal

pub returns-in_err-mutator-clause-step : goal.returns-in_err-mutator-clause-step
returns-in_err-mutator-clause-step c = rw (← c.self.view_is, handed_on _ _ _ c.from_residual.ensures.1 c.in_err-mutator.ensures.err.0) (refused_vacant _ _ _ c.in_err-mutator.ensures.err.1)

pub returns-in_err-index-clause-step : goal.returns-in_err-index-clause-step
returns-in_err-index-clause-step c =
    rw (← c.self.view_is, handed_on_none _ _ _ _ c.from_residual-in_err-index.ensures.1 c.in_err-index.ensures.value)
    (let at = c.in_ok-mutator.ensures.ok in
    let none = rw (c.in_err-index.ensures.ok_part, c.word-address.ensures) at c.index_at.ensures.none in
    keeps_all _ _ _ _ c.in_ok-mutator.mutator.now at (λ s h. Acts.free_nothing (reads_nothing _ c.self.invariant.0 s h _ none)))

pub returns-then-object-address-clause-step : goal.returns-then-object-address-clause-step
returns-then-object-address-clause-step c =
    rw (← c.self.view_is)
    (let found = rw (c.in_ok-index.ensures.ok_part, c.word-address.ensures) at c.index_at.ensures.some in
    refuses_inside _ c.self.invariant.0 _ found.0 _ _ _ c.in_ok-mutator.ensures.ok found.1 found.2
    (λ same. (rw c.word-address.ensures at c.if-object-address.true) (ap (λ (y : Extent). y.base) (same_Some _ _ (sym c.object.ensures ∙ found.1)) ∙ same)))

pub invariant_of-self : goal.invariant_of-self
invariant_of-self c =
    let long : length c.take_along.new.words ≡ length c.self.inside.words.items = c.take_along.auto.words ∙ ap length c.deref_mut.ensures.value in
    let kept = ap length (with_items_is c.self.inside.words c.take_along.new.words (long ∙ sym c.self.inside.words.ok.0)) ∙ long in (
      rw c.remove-freed.ensures.origin (remove_sound _ c.self.invariant.0 _ _ _ c.remove-freed.ensures.removed c.remove-freed.ensures.objects _ _ kept),
      rw c.remove-freed.ensures.words (record { owned = kept ∙ c.self.invariant.1.owned; lists = c.self.invariant.1.lists; flags = c.self.invariant.1.flags }),
    )

pub returns-clause-step : goal.returns-clause-step
returns-clause-step c =
    rw (← c.self.view_is, c.remove-freed.ensures.origin)
    (removes _ c.self.invariant.0 _ _ _ c.remove-freed.ensures.removed c.remove-freed.ensures.objects _ _
    (along_of _ _ _ _ _ _ c.deref_mut.ensures.value (with_items_is c.self.inside.words c.take_along.new.words (c.take_along.auto.words ∙ ap length c.deref_mut.ensures.value ∙ sym c.self.inside.words.ok.0))
    (rw c.remove-freed.ensures.origin at c.take_along.ensures.words) c.take_along.ensures.links)
    _ _ _ c.in_ok-mutator.ensures.ok
    (ap (λ (y : Extent). y.base) (same_Some _ _ (sym c.remove-freed.ensures.removed ∙ c.object.ensures)) ∙ c.if-object-address.false ∙ c.word-address.ensures))
