-- The objects of a plain heap and those of a heap that it stands for.
use Rattle.std.proofs.Common.{◌≡◌, ℕ, ◌<◌, length, get_or, refl, sym, ap, ◌∙◌, arith}
use Rattle.std.specs.Prelude.{All, Contains, Option, Some, None}
use Rattle.std.proofs.lemmas.List.Elements.{All-contains, Contains-get_or}
use Rattle.std.proofs.lemmas.Option.{same_Some, none-some}
use Rattle.heap_spec.specs.Layout.{PointsInto}
use Rattle.heap_spec.specs.Heap.{Heap, Object, HasObject, PointsIntoObject, PointsIntoNothing}
use Rattle.links.specs.Leaving.{word_index}
use Rattle.plain_heap.specs.declared.extent.Extent.{Extent}
use Rattle.plain_heap.specs.PlainContents.{PlainContents, IsLaidOut, IsInHeap}
use Rattle.plain_heap.specs.Places.{IsNoBase}
use Rattle.plain_heap.specs.Standing.{StandsFor, IsShown}
use Rattle.plain_heap.proofs.Memory.{length_words}

none_of : {A : Type 0} (o : Option A) → ((x : A) → o ≡ Some x → ⊥) → o ≡ None
none_of None h = refl
none_of (Some x) h = absurd (h x refl)

module _ (c : PlainContents) (sound : IsLaidOut c) where
  pub in_heap : (e : Extent) → Contains c.objects e → IsInHeap c.origin c.pages e
  in_heap e has = All-contains (IsInHeap c.origin c.pages) c.objects e sound.in_heap has

  -- an object of the heap is as long as its extent
  pub length_shown : (e : Extent) → Contains c.objects e → (o : Object) → IsShown c.origin c.words e o → length o.words ≡ e.length
  length_shown e has o show = ap length show.words ∙ length_words c.origin c.words c.pages e sound.words (in_heap e has)

  -- an object reads its own base
  pub reads_base : (e : Extent) → Contains c.objects e → (a : ℕ) → a ≡ e.base → PointsInto a e.base e.length
  reads_base e has a is = let i : IsInHeap c.origin c.pages e = in_heap e has in (omega arith, omega arith)

  -- an address that reads an object has a place in the row of words
  pub in_row : (e : Extent) → Contains c.objects e → (a : ℕ) → PointsInto a e.base e.length → word_index c.origin a < length c.words
  in_row e has a r = let i : IsInHeap c.origin c.pages e = in_heap e has in let w = sound.words in omega arith

module _ (c : PlainContents) (sound : IsLaidOut c) (s : Heap) (h : StandsFor c s) where
  -- the object of the heap that lies there
  pub object_of : (e : Extent) → Contains c.objects e → (o : Object) × HasObject s e.base o × (length o.words ≡ e.length) × (o.kind ≡ e.kind)
  object_of e has =
      let kept = h.kept e has in
      (kept.0, kept.1, length_shown c sound e has kept.0 kept.2, kept.2.kind)

  -- where an object of the heap lies
  pub extent_of : (base : ℕ) (o : Object) → HasObject s base o → (e : Extent) × Contains c.objects e × (e.base ≡ base) × (e.length ≡ length o.words) × (e.kind ≡ o.kind)
  extent_of base o has =
      let e = h.only base o has in
      let kept = object_of e.0 e.1 in
      let same : kept.0 ≡ o = same_Some _ _ (sym kept.1 ∙ ap s.objects e.2 ∙ has) in
      (e.0, e.1, e.2, sym kept.2 ∙ ap (λ (p : Object). length p.words) same, sym kept.3 ∙ ap (λ (p : Object). p.kind) same)

  -- an address that reads an extent reads the object that lies there
  pub reads_object : (e : Extent) → Contains c.objects e → (a : ℕ) → PointsInto a e.base e.length → (o : Object) × PointsIntoObject s a e.base o × (length o.words ≡ e.length) × (o.kind ≡ e.kind)
  reads_object e has a r = let o = object_of e has in (o.0, (o.1, rw o.2 r), o.2, o.3)

  -- an address that reads no extent reads nothing
  pub reads_nothing : (a : ℕ) → All (λ (e : Extent). PointsInto a e.base e.length → ⊥) c.objects → PointsIntoNothing s a
  reads_nothing a none base o r =
      let e = extent_of base o r.0 in
      All-contains (λ (f : Extent). PointsInto a f.base f.length → ⊥) c.objects e.0 none e.1 (rw (e.2, e.3) r.1)

  -- no object has a base that no extent has, and the other way round
  pub none_at : (a : ℕ) → IsNoBase c.objects a → s.objects a ≡ None
  none_at a none = none_of (s.objects a) (λ o is. let e = h.only a o is in All-contains (λ (g : Extent). g.base ≡ a → ⊥) c.objects e.0 none e.1 e.2)

  pub none_in : (a : ℕ) → s.objects a ≡ None → IsNoBase c.objects a
  none_in a none k d lt same =
      let kept = h.kept (get_or c.objects k d) (Contains-get_or c.objects k d lt) in
      none-some kept.0 (sym none ∙ ap s.objects (sym same) ∙ kept.1)
