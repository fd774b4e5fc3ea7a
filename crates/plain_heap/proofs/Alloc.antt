-- An allocation, and that the plain heap stays sound.
use Rattle.std.proofs.Common.{◌≡◌, ℕ, ◌+◌, ◌*◌, ◌/◌, ◌%◌, ◌<◌, ◌≤◌, ◌⊎◌, List, [], ◌∷◌, ◌++◌, length, get_or, drop, replicate, refl, sym, ap, ◌∙◌, subst, arith, inl, inr, ⊎_elim}
use Rattle.std.specs.Prelude.{◌≢◌, Some, None, All, Contains, slice_get}
use Rattle.std.proofs.Math.Nat.{mul_assoc, mul-mod_right}
use Rattle.std.proofs.lemmas.List.{ext_get_or, get_or-take, get_or-drop, get_or-replicate, length-replicate, length_push}
use Rattle.std.proofs.lemmas.List.Elements.{All-nil, All-contains, All-push, Contains-push_cases, Contains-push, Contains-append_left}
use Rattle.std.proofs.lemmas.Option.{same_Some, none-some}
use Rattle.std.proofs.lemmas.Bool.{cases_lt, cases_eq}
use Rattle.words.specs.declared.class.Kind.{Kind}
use Rattle.words.specs.declared.class.Placement.{Placement}
use Rattle.words.specs.declared.class.Placement.TheVariants.{Small, Large}
use Rattle.words.specs.declared.limits.TheConstants.{WORD_BYTES, PAGE_WORDS, FIRST_ADDRESS, MAX_PAGES}
use Rattle.words.specs.Placing.{placement_of}
use Rattle.heap_spec.specs.declared.call.Call.TheVariants.{Alloc}
use Rattle.heap_spec.specs.declared.reply.Reply.TheVariants.{Done}
use Rattle.heap_spec.specs.Layout.{PointsInto, LiesOn, word_end}
use Rattle.heap_spec.specs.Heap.{Heap, Object, Mutator, HasObject}
use Rattle.heap_spec.specs.Room.{HasRoom, length_of}
use Rattle.heap_spec.specs.Steps.{Acts, Calls, acts, with_register, with_object, with_new}
use Rattle.heap_spec.proofs.Objects.{with_at-same, with_at-other, same_object}
use Rattle.links.specs.declared.row.Link.{Link}
use Rattle.links.specs.Leaving.{word_index}
use Rattle.links.proofs.Named.{named_kept}
use Rattle.roots.specs.Roots.{RootSet, HasMutator, HasNoMutator, SetsWord}
use Rattle.plain_heap.specs.declared.extent.Extent.{Extent}
use Rattle.plain_heap.specs.PlainContents.{PlainContents, IsLaidOut, IsInHeap, IsPlacedExtent, ArePlaced, end_of}
use Rattle.plain_heap.specs.Answering.{MayBePut, IsPut, IsBornAt, IsAllocatedAt, CantAllocateAt, heap_with}
use Rattle.plain_heap.specs.Anywhere.{with_words}
use Rattle.plain_heap.specs.Places.{IsPlace, IsSized, IsFresh}
use Rattle.plain_heap.specs.Standing.{StandsFor, IsShown, words_at}
use Rattle.plain_heap.proofs.Stands.{StepsCall, mutator_at, set_is}
use Rattle.plain_heap.proofs.Memory.{length_words}
use Rattle.plain_heap.proofs.Objects.{in_heap, object_of, extent_of}
use Rattle.plain_heap.proofs.Freshness.{fresh_small, fresh_large, distinct_push, distinct_none, few_objects}
use Rattle.plain_heap.proofs.Placing.{sized}
use Rattle.plain_heap.proofs.Rooms.{room_of, place_of}

-- a new plain heap
pub new_sound : (origin pages : ℕ) (words : List ℕ) (objects : List Extent) (roots : RootSet) (links : List Link) → pages ≤ MAX_PAGES → origin % WORD_BYTES ≡ 0 → 0 < origin → end_of origin pages < word_end → length words ≡ PAGE_WORDS * pages
    → objects ≡ [] → IsLaidOut (record { origin = origin; pages = pages; words = words; objects = objects; roots = roots; links = links })
new_sound origin pages words objects roots links p a z f w o = record {
  pages = p;
  starts = a;
  past_zero = z;
  fits = f;
  words = w;
  in_heap = rw o (All-nil (IsInHeap origin pages));
  distinct = distinct_none origin objects o;
  apart = λ e f x he hf re rf. absurd (All-contains (λ (g : Extent). ⊥) objects e (rw o (All-nil (λ (g : Extent). ⊥))) he);
}

pub even_product : (l i : ℕ) → l % 2 ≡ 0 → (l * i) % 2 ≡ 0
even_product l i even =
    let e : l ≡ 2 * (l / 2) = omega arith in
    ap (λ x. (x * i) % 2) e ∙ ap (λ x. x % 2) (mul_assoc 2 (l / 2) i) ∙ mul-mod_right 2 ((l / 2) * i)

-- where an object goes it is in the heap, has a proper place, and shares no word
pub new_in_heap : (pages : ℕ) (row : List Extent) (placement : Placement) (kind : Kind) (e : Extent) → IsSized placement → e.length ≡ length_of placement → IsPlace row pages placement kind e.base → IsInHeap FIRST_ADDRESS pages e
new_in_heap pages row (Small class) kind e sized l p =
    let i = p.on.is_cell in let f = p.on.in_page in let q = p.in_heap in
    let even : (class * p.on.cell) % 2 ≡ 0 = even_product class p.on.cell sized.2 in
    record { start = omega arith; aligned = omega arith; some = omega arith; ends = omega arith }
new_in_heap pages row (Large count) kind e sized l p =
    let i = p.is_start in let q = p.in_heap in
    record { start = omega arith; aligned = omega arith; some = omega arith; ends = omega arith }

pub new_fresh : (pages : ℕ) (row : List Extent) (placement : Placement) (kind : Kind) (e : Extent) → All IsPlacedExtent row → IsSized placement → e.length ≡ length_of placement → IsPlace row pages placement kind e.base → IsFresh row e
new_fresh pages row (Small class) kind e placed sized l p = fresh_small p.page kind row e placed (omega arith) (rw l p.on)
new_fresh pages row (Large count) kind e placed sized l p = fresh_large pages count row e l p

-- an object put at a base is there, and the others are as they were
pub after_cases : (s : Heap) (base : ℕ) (o' : Object) (b : ℕ) (p : Object) → HasObject (with_object s base (Some o')) b p → ((b ≡ base) × (o' ≡ p)) ⊎ ((b ≢ base) × HasObject s b p)
after_cases s base o' b p is =
    ⊎_elim
    (λ same. inl (same, same_Some _ _ (sym (with_at-same s.objects base (Some o') b same) ∙ is)))
    (λ other. inr (other, sym (with_at-other s.objects base (Some o') b other) ∙ is))
    (cases_eq b base)

-- the words that a new object's place has
pub record IsZeroed (origin : ℕ) (old new : List ℕ) (e : Extent) : Type 0 where
  pub long : length new ≡ length old
  pub zeroed : (k : ℕ) → word_index origin e.base ≤ k → k < word_index origin e.base + e.length → get_or new k 0 ≡ 0
  pub others : (k : ℕ) → (k < word_index origin e.base) ⊎ (word_index origin e.base + e.length ≤ k) → get_or new k 0 ≡ get_or old k 0

words_index : (origin : ℕ) (row : List ℕ) (e : Extent) (i : ℕ) → i < e.length → get_or (words_at origin row e) i 0 ≡ get_or row (word_index origin e.base + i) 0
words_index origin row e i lt = get_or-take e.length (drop (word_index origin e.base) row) i 0 lt ∙ get_or-drop (word_index origin e.base) row i 0

zero_words : (origin : ℕ) (old new : List ℕ) (pages : ℕ) (e : Extent) → length old ≡ PAGE_WORDS * pages → IsInHeap origin pages e → IsZeroed origin old new e → replicate e.length 0 ≡ words_at origin new e
zero_words origin old new pages e l i z =
    ext_get_or 0 _ _ (length-replicate e.length 0 ∙ sym (length_words origin new pages e (z.long ∙ l) i))
    (λ k lt. let h : k < e.length = rw length-replicate at lt in
    get_or-replicate e.length k 0 0 h ∙ sym (words_index origin new e k h ∙ z.zeroed (word_index origin e.base + k) (omega arith) (omega arith)))

other_words : (origin : ℕ) (old new : List ℕ) (pages : ℕ) (e g : Extent) → length old ≡ PAGE_WORDS * pages → IsInHeap origin pages e → IsInHeap origin pages g → IsZeroed origin old new e → ((w : ℕ) → PointsInto w e.base e.length → PointsInto w g.base g.length → ⊥) → words_at origin old g ≡ words_at origin new g
other_words origin old new pages e g l ie ig z apart =
    ext_get_or 0 _ _ (length_words origin old pages g l ig ∙ sym (length_words origin new pages g (z.long ∙ l) ig))
    (λ k lt. let h : k < g.length = rw (length_words origin old pages g l ig) at lt in
    words_index origin old g k h ∙ sym (words_index origin new g k h ∙ z.others (word_index origin g.base + k) (outside k h)))
  where
    outside : (k : ℕ) → k < g.length → (word_index origin g.base + k < word_index origin e.base) ⊎ (word_index origin e.base + e.length ≤ word_index origin g.base + k)
    outside k h = ⊎_elim (λ before. inl before) (λ from. ⊎_elim (λ inside. absurd (apart (g.base + WORD_BYTES * k) (omega arith, omega arith) (omega arith, omega arith))) (λ past. inr past) (cases_lt (word_index origin g.base + k) (word_index origin e.base + e.length))) (cases_lt (word_index origin g.base + k) (word_index origin e.base))

pub puts_at : (c : PlainContents) (roots : RootSet) (k d : ℕ) (e : Extent) (row : List ℕ) → IsLaidOut c → MayBePut c e → IsZeroed c.origin c.words row e → SetsWord c.roots k d e.base roots
    → IsPut c k d e (record c { words = row; objects = c.objects ++ e ∷ []; roots = roots })
puts_at c roots k d e row sound fits zeroed sets m at s h = (
  record {
    object = o;
    there = with_at-same s.objects e.base (Some o) e.base refl;
    newest = omega arith;
    alone = λ b w p has re rp. ⊎_elim (λ q. q.0) (λ q. let g = extent_of c sound s h b p q.1 in absurd (fresh g.0 w g.1 (rw length-replicate at re) (rw (g.2, g.3) rp))) (after_cases s e.base o b p has);
  },
  record {
    pages = h.pages;
    mutators = (set_is c s h roots k d e.base m at sets).0;
    globals = (set_is c s h roots k d e.base m at sets).1;
    request_words = (set_is c s h roots k d e.base m at sets).2;
    kept = λ g hg. ⊎_elim
        (λ old. let kept = h.kept g old in (
          kept.0,
          with_at-other s.objects e.base (Some o) g.base (λ same. fresh g g.base old (base_in e new g.base same) (base_in g (in_heap c sound g old) g.base refl)) ∙ kept.1,
          record { kind = kept.2.kind; words = kept.2.words ∙ other_words c.origin c.words row c.pages e g sound.words new (in_heap c sound g old) zeroed (λ w re rg. fresh g w old re rg) },
        ))
        (λ same. subst (λ (x : Extent). (p : Object) × HasObject after x.base p × IsShown c.origin row x p) same
        (o, with_at-same s.objects e.base (Some o) e.base refl, record { kind = refl; words = zero_words c.origin c.words row c.pages e sound.words new zeroed }))
        (Contains-push_cases c.objects e g hg);
    only = λ b p has. ⊎_elim
        (λ q. (e, Contains-push c.objects e, sym q.0))
        (λ q. let f = h.only b p q.1 in (f.0, Contains-append_left c.objects (e ∷ []) f.0 f.1, f.2))
        (after_cases s e.base o b p has);
    born = λ b p has. ⊎_elim
        (λ q. subst (λ (x : Object). (1 ≤ x.birth) × (x.birth ≤ s.births + 1)) q.1 (omega arith, omega arith))
        (λ q. let r = h.born b p q.1 in (r.0, omega (arith, r.1)))
        (after_cases s e.base o b p has);
    distinct = λ a b p q ha hb same. ⊎_elim
        (λ x. ⊎_elim (λ y. x.0 ∙ sym y.0) (λ y. absurd (too_late b q (p.birth) y.1 (ap (λ (z : Object). z.birth) x.1) same)) (after_cases s e.base o b q hb))
        (λ x. ⊎_elim (λ y. absurd (too_late a p (q.birth) x.1 (ap (λ (z : Object). z.birth) y.1) (sym same))) (λ y. h.distinct a b p q x.1 y.1 same) (after_cases s e.base o b q hb))
        (after_cases s e.base o a p ha);
    links = named_kept s.objects after.objects (λ b p is. (p, with_at-other s.objects e.base (Some o) b (λ same. bare b p same is) ∙ is, same_object p)) h.links;
  },
)
  where
    new : IsInHeap c.origin c.pages e
    new = fits.in_heap

    fresh : IsFresh c.objects e
    fresh = fits.fresh

    o : Object
    o = record { birth = s.births + 1; kind = e.kind; words = replicate e.length 0 }

    after : Heap
    after = heap_with s k m d e

    base_in : (g : Extent) → IsInHeap c.origin c.pages g → (w : ℕ) → w ≡ g.base → PointsInto w g.base g.length
    base_in g i w same = (omega arith, omega arith)

    bare : (b : ℕ) (p : Object) → b ≡ e.base → HasObject s b p → ⊥
    bare b p same is =
        let g = h.only b p is in
        fresh g.0 e.base g.1 (base_in e new e.base refl) (base_in g.0 (in_heap c sound g.0 g.1) e.base (sym (g.2 ∙ same)))

    too_late : (b : ℕ) (q : Object) (x : ℕ) → HasObject s b q → s.births + 1 ≡ x → x ≡ q.birth → ⊥
    too_late b q x has is same = let r = h.born b q has in let l = r.1 in omega arith

-- the plain heap stays sound
pub sound_after : (c : PlainContents) (roots : RootSet) (e : Extent) (row : List ℕ) → IsLaidOut c → IsInHeap c.origin c.pages e → IsFresh c.objects e → length row ≡ length c.words
    → IsLaidOut (record c { words = row; objects = c.objects ++ e ∷ []; roots = roots })
sound_after c roots e row sound new fresh long = record {
  pages = sound.pages;
  starts = sound.starts;
  past_zero = sound.past_zero;
  fits = sound.fits;
  words = long ∙ sound.words;
  in_heap = All-push (IsInHeap c.origin c.pages) c.objects e sound.in_heap new;
  distinct = distinct_push c.origin c.pages c.objects e sound.in_heap new fresh sound.distinct;
  apart = λ f g w hf hg rf rg. ⊎_elim
      (λ x. ⊎_elim (λ y. sound.apart f g w x y rf rg) (λ y. absurd (fresh f w x (subst (λ (z : Extent). PointsInto w z.base z.length) (sym y) rg) rf)) (Contains-push_cases c.objects e g hg))
      (λ x. ⊎_elim (λ y. absurd (fresh g w y (subst (λ (z : Extent). PointsInto w z.base z.length) (sym x) rf) rg)) (λ y. sym x ∙ y) (Contains-push_cases c.objects e g hg))
      (Contains-push_cases c.objects e f hf);
}

-- there is room for one more
pub has_room : (c : PlainContents) (e : Extent) → IsLaidOut c → IsInHeap c.origin c.pages e → IsFresh c.objects e → length c.objects < PAGE_WORDS * c.pages
has_room c e sound new fresh =
    let l : length (c.objects ++ e ∷ []) ≤ PAGE_WORDS * c.pages = few_objects c.origin c.pages (c.objects ++ e ∷ []) (All-push (IsInHeap c.origin c.pages) c.objects e sound.in_heap new) (distinct_push c.origin c.pages c.objects e sound.in_heap new fresh sound.distinct) in
    let m : length c.objects + 1 ≤ PAGE_WORDS * c.pages = rw length_push at l in
    omega arith

module _ (c : PlainContents) (e : Extent) (sound : IsLaidOut c) (fits : MayBePut c e) where
  pub room_left : length c.objects < PAGE_WORDS * c.pages
  room_left = has_room c e sound fits.in_heap fits.fresh

  pub puts : (roots : RootSet) (k d : ℕ) (row : List ℕ) (objects : List Extent) → IsZeroed c.origin c.words row e → objects ≡ c.objects ++ e ∷ [] → SetsWord c.roots k d e.base roots
      → IsPut c k d e (record c { words = row; objects = objects; roots = roots })
  puts roots k d row objects zeroed pushed sets = rw pushed (puts_at c roots k d e row sound fits zeroed sets)

  pub alloc_sound : (roots : RootSet) (row : List ℕ) (objects : List Extent) → length row ≡ length c.words → objects ≡ c.objects ++ e ∷ [] → IsLaidOut (record c { words = row; objects = objects; roots = roots })
  alloc_sound roots row objects l pushed = rw pushed (sound_after c roots e row sound fits.in_heap fits.fresh l)

-- a request goes where it goes in the heap that is stood for
pub limit_is : (c : PlainContents) (s : Heap) (n : ℕ) → StandsFor c s → placement_of s.request_words n ≡ placement_of c.roots.request_words n
limit_is c s n h = ap (λ limit. placement_of limit n) h.request_words

-- where an object was born there was room for it
pub born_where : (c : PlainContents) → IsLaidOut c → (s : Heap) → StandsFor c s → (k d n base : ℕ) (kind : Kind) (placement : Placement) → placement_of c.roots.request_words n ≡ Some placement → {s' : Heap} → Calls s k (Alloc d n kind) Done s' → IsBornAt s base s'
    → IsPlace c.objects c.pages placement kind base
born_where c sound s h k d n base kind placement is (acts at (Acts.allocated {placement = other} a is' room)) born =
    ⊎_elim
    (λ new. subst (IsPlace c.objects c.pages placement kind) (sym new.0)
    (place_of c sound s h placement kind a (subst (λ p. HasRoom s p kind a) (same_Some other placement (sym is' ∙ limit_is c s n h ∙ is)) room)))
    (λ old. let b = h.born base born.object old.1 in let newest = born.newest in absurd (omega (arith, b.1)))
    (after_cases s a _ base born.object born.there)

pub cant_place : (c : PlainContents) → IsLaidOut c → (k d n base : ℕ) (kind : Kind) (placement : Placement) → placement_of c.roots.request_words n ≡ Some placement → (IsPlace c.objects c.pages placement kind base → ⊥) → CantAllocateAt c k d n kind base
cant_place c sound k d n base kind placement is none from s h s' calls born = none (born_where c sound s h k d n base kind placement is calls born)

-- a request of no size, and one of no mutator, are granted nowhere
pub cant_size : (c : PlainContents) (k d n base : ℕ) (kind : Kind) → placement_of c.roots.request_words n ≡ None → CantAllocateAt c k d n kind base
cant_size c k d n base kind none from s h s' (acts at (Acts.allocated {placement = placement} a is room)) born = absurd (none-some placement (sym none ∙ sym (limit_is c s n h) ∙ is))

pub cant_call : (c : PlainContents) (k d n base : ℕ) (kind : Kind) → HasNoMutator c.roots k → CantAllocateAt c k d n kind base
cant_call c k d n base kind none from s h s' (acts {m = m} at act) born =
    absurd (none-some m (same_Some None (Some m) (sym (ap (λ ms. slice_get ms k) h.mutators ∙ none) ∙ at)))

-- where size classes place objects, a place for a new one may have it
pub may_have : (c : PlainContents) → IsLaidOut c → (n : ℕ) (kind : Kind) (placement : Placement) (e : Extent) → ArePlaced c → placement_of c.roots.request_words n ≡ Some placement → e.length ≡ length_of placement → IsPlace c.objects c.pages placement kind e.base → MayBePut c e
may_have c sound n kind placement e placed is long room = record {
  in_heap = subst (λ o. IsInHeap o c.pages e) (sym placed.0) (new_in_heap c.pages c.objects placement kind e (sized _ n placement is) long room);
  fresh = new_fresh c.pages c.objects placement kind e placed.1 (sized _ n placement is) long room;
}

-- no object begins at a place for a new one
no_base : (origin pages : ℕ) (row : List Extent) (placement : Placement) (kind : Kind) (a : ℕ) → IsSized placement → IsPlace row pages placement kind a → All (IsInHeap origin pages) row → (f : Extent) → Contains row f → f.base ≡ a → ⊥
no_base origin pages row (Small class) kind a sized p inside f has same =
    let i : IsInHeap origin pages f = All-contains (IsInHeap origin pages) row f inside has in
    let is = p.on.is_cell in let in_page = p.on.in_page in let some = sized.0 in let more = i.some in
    ⊎_elim
    (λ free. All-contains (λ (g : Extent). LiesOn g.base g.length p.page → ⊥) row f free has (omega arith, omega arith))
    (λ cut. All-contains (λ (g : Extent). g.base ≡ a → ⊥) row f cut.1 has same)
    p.on.cut
no_base origin pages row (Large count) kind a sized p inside f has same =
    let i : IsInHeap origin pages f = All-contains (IsInHeap origin pages) row f inside has in
    let is = p.is_start in let more = i.some in
    All-contains (λ (g : Extent). LiesOn g.base g.length p.first → ⊥) row f (p.free p.first (omega arith) (omega arith)) has (omega arith, omega arith)

-- an object that was born alone at a place shares no byte with those that were there
shares : (c : PlainContents) → IsLaidOut c → (s : Heap) → StandsFor c s → (k d a : ℕ) (m : Mutator) (kind : Kind) (placement other : Placement) (e : Extent) → other ≡ placement → e.length ≡ length_of placement → IsSized placement
    → IsPlace c.objects c.pages placement kind e.base → IsBornAt s e.base (with_register (with_new s a kind other) k m d a) → IsFresh c.objects e
shares c sound s h k d a m kind placement other e same long sized room born f w has re rf = ⊎_elim
    (λ new.
    let kept = object_of c sound s h f has in
    none (born.alone f.base w kept.0 (with_at-other s.objects a (Some o) f.base (λ x. none (x ∙ sym new.0)) ∙ kept.1) (subst (PointsInto w e.base) (size new.1) re) (rw kept.2 rf)))
    (λ old. let b = h.born e.base born.object old.1 in let newest = born.newest in absurd (omega (arith, b.1)))
    (after_cases s a o e.base born.object born.there)
  where
    o : Object
    o = record { birth = s.births + 1; kind = kind; words = replicate (length_of other) 0 }

    none : f.base ≡ e.base → ⊥
    none = no_base c.origin c.pages c.objects placement kind e.base sized room sound.in_heap f has

    size : o ≡ born.object → e.length ≡ length born.object.words
    size is = long ∙ ap length_of (sym same) ∙ sym (length-replicate (length_of other) 0) ∙ ap (λ (x : Object). length x.words) is

pub cant_share : (c : PlainContents) → IsLaidOut c → (k d n base : ℕ) (kind : Kind) (placement : Placement) (e : Extent) → placement_of c.roots.request_words n ≡ Some placement → e.length ≡ length_of placement → e.base ≡ base
    → IsPlace c.objects c.pages placement kind base → (MayBePut c e → ⊥) → CantAllocateAt c k d n kind base
cant_share c sound k d n base kind placement e is long bases room none from s h s' (acts {m = m} at (Acts.allocated {placement = other} a is' has)) born =
    let here : IsPlace c.objects c.pages placement kind e.base = subst (IsPlace c.objects c.pages placement kind) (sym bases) room in
    none (record {
      in_heap = subst (λ o. IsInHeap o c.pages e) (sym from) (new_in_heap c.pages c.objects placement kind e (sized _ n placement is) long here);
      fresh = shares c sound s h k d a m kind placement other e (same_Some other placement (sym is' ∙ limit_is c s n h ∙ is)) long (sized _ n placement is) here
          (subst (λ b. IsBornAt s b (with_register (with_new s a kind other) k m d a)) (sym bases) born);
    })

-- what may be put may be put into the plain heap as it is seen
pub fits_by : (c now : PlainContents) → c ≡ now → (e : Extent) → IsInHeap c.origin c.pages e → IsFresh c.objects e → MayBePut now e
fits_by c now view e inside fresh = subst (λ (x : PlainContents). MayBePut x e) view (record { in_heap = inside; fresh = fresh })

-- a request that was granted by an object
pub put_at : (c later : PlainContents) → IsLaidOut c → (k d n base : ℕ) (kind : Kind) (placement : Placement) (e : Extent) (m : Mutator) → HasMutator c.roots k m → placement_of c.roots.request_words n ≡ Some placement → e.kind ≡ kind → e.length ≡ length_of placement
    → e.base ≡ base → IsPlace c.objects c.pages placement kind base → IsPut c k d e later → IsAllocatedAt c k d n kind base later
put_at c later sound k d n base kind placement e m at is kinds long bases room put s h =
    let x = put m at s h in
    let here : IsPlace c.objects c.pages placement kind e.base = subst (IsPlace c.objects c.pages placement kind) (sym bases) room in (
      heap_with s k m d e,
      acts (mutator_at c s h k m at)
          (subst (λ (q : Kind). Acts s k m (Alloc d n kind) Done (with_register (with_words s e.base q e.length) k m d e.base)) (sym kinds)
          (subst (λ (l : ℕ). Acts s k m (Alloc d n kind) Done (with_register (with_words s e.base kind l) k m d e.base)) (sym long)
          (Acts.allocated e.base (limit_is c s n h ∙ is) (room_of c sound s h placement kind e.base here)))),
      subst (λ b. IsBornAt s b (heap_with s k m d e)) bases x.0,
      x.1,
    )

pub put_steps : (c later : PlainContents) → IsLaidOut c → (k d n : ℕ) (kind : Kind) (placement : Placement) (e : Extent) (m : Mutator) → HasMutator c.roots k m → placement_of c.roots.request_words n ≡ Some placement → e.kind ≡ kind → e.length ≡ length_of placement
    → IsPlace c.objects c.pages placement kind e.base → IsPut c k d e later → StepsCall c k (Alloc d n kind) Done later
put_steps c later sound k d n kind placement e m at is kinds long room put s h =
    let x = put_at c later sound k d n e.base kind placement e m at is kinds long refl room put s h in (x.0, x.1, x.3)
