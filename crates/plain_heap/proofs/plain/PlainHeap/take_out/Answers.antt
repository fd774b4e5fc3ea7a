use Rattle.std.proofs.Common.{◌≡◌, length, sym, ap, subst, ◌∙◌, arith}
use Rattle.std.proofs.lemmas.List.{with_items_is}
use Rattle.plain_heap.specs.Parting.{Parts}
use Rattle.plain_heap.proofs.Forgets.{takes_out}
use Rattle.plain_heap.proofs.Free.{rest_sound, along_of}
use Rattle.plain_heap.proofs.plain.PlainHeap.take_out.Goals as goal

pub invariant_of-self : goal.invariant_of-self
invariant_of-self c =
    let long : length c.take_along.new.words ≡ length c.self.inside.words.items = c.take_along.auto.words ∙ ap length c.deref_mut.ensures.value in
    let kept = ap length (with_items_is c.self.inside.words c.take_along.new.words (long ∙ sym c.self.inside.words.ok.0)) ∙ long in (
      rw c.keep_flagged-gone.ensures.origin (rest_sound _ c.self.invariant.0 c.keep_flagged-gone.ensures.parts.gone _ c.keep_flagged-gone.ensures.parts.all _ _ kept),
      rw c.keep_flagged-gone.ensures.words (record {
        owned = kept ∙ c.self.invariant.1.owned;
        lists = c.self.invariant.1.lists;
        flags = let size = c.unset_named.ensures.size in let filled = c.fill.ensures.len in let flags = c.self.invariant.1.flags in omega (arith, c.fill.new.self.ok.0, c.self.inside.stays.ok.0);
      }),
    )

pub returns-clause-taken : goal.returns-clause-taken
returns-clause-taken c = rw (← c.self.view_is, c.keep_flagged-gone.ensures.origin)
    (takes_out _ c.self.invariant.0 c.args.bases.now c.unset_named.new.flags.items c.unset_named.ensures.unset _ _
    (subst (λ f. Parts c.self.inside.directory.objects.items f c.keep_flagged-gone.new.self.objects.items c.keep_flagged-gone.result) c.deref.ensures.value c.keep_flagged-gone.ensures.parts) _ _
    (along_of _ _ _ _ _ _ c.deref_mut.ensures.value (with_items_is c.self.inside.words c.take_along.new.words (c.take_along.auto.words ∙ ap length c.deref_mut.ensures.value ∙ sym c.self.inside.words.ok.0))
    (rw c.keep_flagged-gone.ensures.origin at c.take_along.ensures.words) c.take_along.ensures.links))
