-- Requests that are granted wherever no object lies.
use Rattle.std.proofs.Common.{◌≡◌, ℕ, ◌+◌, ◌≤◌, length, replicate, sym, ap, ◌∙◌, subst, refl, arith, ⊎_elim}
use Rattle.std.specs.Prelude.{Some, None, slice_get}
use Rattle.std.proofs.lemmas.List.{length-replicate}
use Rattle.std.proofs.lemmas.Option.{same_Some, none-some}
use Rattle.words.specs.declared.class.Kind.{Kind}
use Rattle.words.specs.declared.refusal.Refusal.TheVariants.{NoSlot, BadSize, Full}
use Rattle.words.specs.Placing.{placement_of}
use Rattle.heap_spec.specs.declared.reply.Reply.{Reply}
use Rattle.heap_spec.specs.declared.reply.Reply.TheVariants.{Refused}
use Rattle.heap_spec.specs.Heap.{Heap, Object, Mutator}
use Rattle.heap_spec.proofs.Objects.{with_at-same}
use Rattle.roots.specs.Roots.{HasMutator, HasNoMutator}
use Rattle.plain_heap.specs.declared.extent.Extent.{Extent}
use Rattle.plain_heap.specs.PlainContents.{PlainContents, IsLaidOut}
use Rattle.plain_heap.specs.Answering.{MayBePut, IsPut, IsAllocatedAnywhere, CantAllocateAnywhere, MayRefuse, CantRefuse, heap_with}
use Rattle.plain_heap.specs.Anywhere.{HasRoomAnywhere, Grants, Requests, by, vacant}
use Rattle.plain_heap.specs.Standing.{StandsFor}
use Rattle.plain_heap.proofs.Stands.{mutator_at}
use Rattle.plain_heap.proofs.Objects.{object_of, extent_of}
use Rattle.plain_heap.proofs.Alloc.{after_cases}

-- the object of a request, as an extent
abbrev pub extent : ℕ → Kind → ℕ → Extent
extent base kind n = record { base = base; kind = kind; length = n }

module _ (c : PlainContents) (sound : IsLaidOut c) (k d words base n : ℕ) (kind : Kind) where
  room : (s : Heap) → StandsFor c s → MayBePut c (extent base kind n) → HasRoomAnywhere s c.origin n base
  room s h fits = record {
    start = fits.in_heap.start;
    aligned = fits.in_heap.aligned;
    some = fits.in_heap.some;
    ends = rw h.pages fits.in_heap.ends;
    free = λ b w o has re ro. let g = extent_of c sound s h b o has in fits.fresh g.0 w g.1 re (rw (g.2, g.3) ro);
  }

  pub put_anywhere : (later : PlainContents) (m : Mutator) → HasMutator c.roots k m → words ≤ n → MayBePut c (extent base kind n) → IsPut c k d (extent base kind n) later → IsAllocatedAnywhere c k d words kind base n later
  put_anywhere later m at few fits put s h =
      let x = put m at s h in
      let o : Object = record { birth = s.births + 1; kind = kind; words = replicate n 0 } in
      let same : x.0.object ≡ o = same_Some _ _ (sym x.0.there ∙ with_at-same s.objects base (Some o) base refl) in
      (heap_with s k m d (extent base kind n), by (mutator_at c s h k m at) (Grants.granted base n few (room s h fits)), (x.0, ap (λ (z : Object). length z.words) same ∙ length-replicate n 0), x.1)

  fits_of : (s : Heap) → StandsFor c s → HasRoomAnywhere s c.origin n base → MayBePut c (extent base kind n)
  fits_of s h r = record {
    in_heap = record { start = r.start; aligned = r.aligned; some = r.some; ends = rw (← h.pages) r.ends };
    fresh = λ f w has re rf. let kept = object_of c sound s h f has in r.free f.base w kept.0 kept.1 re (rw kept.2 rf);
  }

  pub cant_anywhere : (words ≤ n → MayBePut c (extent base kind n) → ⊥) → CantAllocateAnywhere c k d words kind base n
  cant_anywhere none s h s' (by {m = m} at (Grants.granted a g few has)) born =
      let o : Object = record { birth = s.births + 1; kind = kind; words = replicate g 0 } in
      ⊎_elim
      (λ new.
      let size : g ≡ n = sym (length-replicate g 0) ∙ ap (λ (z : Object). length z.words) new.1 ∙ born.1 in
      none (omega arith) (fits_of s h (subst (λ x. HasRoomAnywhere s c.origin x base) size (subst (HasRoomAnywhere s c.origin g) (sym new.0) has))))
      (λ old. let b = h.born base born.0.object old.1 in let newest = born.0.newest in absurd (omega (arith, b.1)))
      (after_cases s a o base born.0.object born.0.there)

  pub cant_attached : HasNoMutator c.roots k → CantAllocateAnywhere c k d words kind base n
  cant_attached none s h s' (by {m = m} at act) born = absurd (none-some m (same_Some None (Some m) (sym (ap (λ ms. slice_get ms k) h.mutators ∙ none) ∙ at)))

-- a request that isn't granted
module _ (c : PlainContents) (k words : ℕ) (reply : Reply) where
  pub refuse_vacant : HasNoMutator c.roots k → reply ≡ Refused NoSlot → MayRefuse c k words reply
  refuse_vacant none is into kind s h = subst (λ r. Requests s c.origin k into words kind r s) (sym is) (vacant (ap (λ ms. slice_get ms k) h.mutators ∙ none))

  pub refuse_full : (m : Mutator) → HasMutator c.roots k m → reply ≡ Refused Full → MayRefuse c k words reply
  refuse_full m at is into kind s h = subst (λ r. Requests s c.origin k into words kind r s) (sym is) (by (mutator_at c s h k m at) Grants.full)

  pub refuse_size : (m : Mutator) → HasMutator c.roots k m → placement_of c.roots.request_words words ≡ None → reply ≡ Refused BadSize → MayRefuse c k words reply
  refuse_size m at none is into kind s h = subst (λ r. Requests s c.origin k into words kind r s) (sym is) (by (mutator_at c s h k m at) (Grants.bad_size (ap (λ limit. placement_of limit words) h.request_words ∙ none)))

  pub not_vacant : HasNoMutator c.roots k → (reply ≡ Refused NoSlot → ⊥) → CantRefuse c k words reply
  not_vacant none other into kind s s' h fair asks = go reply refl asks
    where
      go : (r : Reply) {t : Heap} → r ≡ reply → Requests s c.origin k into words kind r t → ⊥
      go r is (by {m = m} at act) = none-some m (same_Some None (Some m) (sym (ap (λ ms. slice_get ms k) h.mutators ∙ none) ∙ at))
      go r is (vacant free) = other (sym is)

  pub not_refused : (m : Mutator) → HasMutator c.roots k m → (reply ≡ Refused Full → ⊥) → (placement_of c.roots.request_words words ≡ None → reply ≡ Refused BadSize → ⊥) → CantRefuse c k words reply
  not_refused m here other size into kind s s' h fair asks = go reply refl asks
    where
      grants : (n : Mutator) (r : Reply) {t : Heap} → r ≡ reply → Grants s c.origin k n into words kind r t → ⊥
      grants n r is (Grants.bad_size none) = size (sym (ap (λ limit. placement_of limit words) h.request_words) ∙ none) (sym is)
      grants n r is Grants.full = other (sym is)
      grants n r is (Grants.granted a l few has) = fair (sym is)

      go : (r : Reply) {t : Heap} → r ≡ reply → Requests s c.origin k into words kind r t → ⊥
      go r is (by {m = n} at act) = grants n r is act
      go r is (vacant free) = none-some m (same_Some None (Some m) (sym free ∙ mutator_at c s h k m here))
