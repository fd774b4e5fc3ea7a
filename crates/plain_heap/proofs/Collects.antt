-- What is reached of a plain heap is what the heap that it stands for reaches, and a collection takes the rest.
use Rattle.std.proofs.Common.{◌≡◌, ℕ, zero, suc, ◌*◌, ◌≤◌, Bool, false, eqb, List, [], ◌∷◌, ◌++◌, map, flat_map, get_or, length, refl, sym, ap, ◌∙◌, subst, arith, ⊎_elim}
use Rattle.std.specs.Prelude.{Some, All, Contains, slice_get, nat_eq}
use Rattle.std.specs.List.{IsDistinct, AllByRecursion}
use Rattle.std.specs.Option.{option_map}
use Rattle.std.specs.Cmp.{nat_eq_equiv}
use Rattle.std.proofs.lemmas.Map.Keys.{IsDistinct-head, IsDistinct-tail, IsDistinct-cons}
use Rattle.std.proofs.lemmas.Map.Made.{IsDistinct-from_count}
use Rattle.std.proofs.lemmas.Bool.{true≢false, ne_eqb}
use Rattle.std.proofs.lemmas.List.{length-map}
use Rattle.std.proofs.lemmas.List.Elements.{All-contains, All-map, Contains-get_or}
use Rattle.std.proofs.lemmas.Option.{same_Some, none-some, slice_get_within, slice_get-get_or, slice_get-map, get_or_from_slice_get}
use Rattle.words.specs.declared.limits.TheConstants.{PAGE_WORDS}
use Rattle.words.specs.declared.class.Kind.{Kind}
use Rattle.words.specs.declared.class.Kind.TheVariants.{Normal, PointerFree}
use Rattle.heap_spec.specs.declared.reply.Reply.TheVariants.{Count}
use Rattle.heap_spec.specs.Layout.{PointsInto}
use Rattle.heap_spec.specs.Heap.{Heap, Object, HasObject, PointsIntoObject, words_of_slot, root_words, without}
use Rattle.heap_spec.specs.Closure.{given, root, word, Reached}
use Rattle.heap_spec.specs.Cycles.{TakesOut, CollectsFully}
use Rattle.links.specs.declared.row.Link.{Link}
use Rattle.links.specs.Leaving.{word_index}
use Rattle.roots.specs.Roots.{root_words_of}
use Rattle.plain_heap.specs.declared.extent.Extent.{Extent}
use Rattle.plain_heap.specs.PlainContents.{PlainContents, IsLaidOut, IsInHeap, first_word}
use Rattle.plain_heap.specs.Collections.{IsCollected, HasGarbage}
use Rattle.plain_heap.specs.Standing.{StandsFor, LiesIn, words_at}
use Rattle.plain_heap.specs.Reached.{PointsIntoNth, AreApart, IsReachedNth, by_root, by_link, MarksReached, read_words}
use Rattle.plain_heap.specs.declared.directory.Directory.{Directory}
use Rattle.plain_heap.specs.declared.listing.Listing.{Listing}
use Rattle.plain_heap.specs.Listing.{HasListRoom, KeepsRoom}
use Rattle.plain_heap.specs.Parting.{Parts}
use Rattle.plain_heap.proofs.Objects.{extent_of, reads_object, reads_base}
use Rattle.plain_heap.proofs.Free.{AreBases, LeavesAlong, rest_stands, was_gone, stays_in, distinct_all, first_apart, differ}

-- the element at a place of a row
pub at_place : {A : Type 0} (row : List A) (x : A) → Contains row x → (i : ℕ) × (slice_get row i ≡ Some x)
at_place row x has = (has.0, slice_get-get_or row has.0 x has.1 ∙ ap Some has.2)

pub in_row : {A : Type 0} (row : List A) (i : ℕ) (x : A) → slice_get row i ≡ Some x → Contains row x
in_row row i x at = (i, slice_get_within row i x at, get_or_from_slice_get row i x x at)

-- the words that are read of an object are those of a Normal one
pub read_of : (kind : Kind) (words : List ℕ) (w : ℕ) → Contains (read_words kind words) w → (kind ≡ Normal) × Contains words w
read_of Normal words w has = (refl, has)
read_of PointerFree words w has = absurd (let lt = has.1 in omega arith)

pub read_in : (kind : Kind) (words : List ℕ) (w : ℕ) → kind ≡ Normal → Contains words w → Contains (read_words kind words) w
read_in Normal words w is has = has
read_in PointerFree words w is has = let z : PointerFree ≡ Normal = is in cc

-- an object stands at one place
once : (origin : ℕ) (row : List Extent) → IsDistinct nat_eq (map (first_word origin) row) → (i j : ℕ) (e : Extent) → slice_get row i ≡ Some e → slice_get row j ≡ Some e → i ≡ j
once origin [] d i j e at at' = absurd (none-some e at)
once origin (g ∷ row) d zero zero e at at' = refl
once origin (g ∷ row) d zero (suc j) e at at' = absurd (first_apart origin row g d j e at' (same_Some g e at))
once origin (g ∷ row) d (suc i) zero e at at' = absurd (first_apart origin row g d i e at (same_Some g e at'))
once origin (g ∷ row) d (suc i) (suc j) e at at' = ap suc (once origin row (IsDistinct-tail nat_eq (first_word origin g) (map (first_word origin) row) d) i j e at at')

-- no word points into two objects of a sound plain heap
pub sound_apart : (c : PlainContents) → IsLaidOut c → AreApart c.objects
sound_apart c sound = record {
  one = λ w i j p q.
      let same : q.0 ≡ p.0 = sound.apart q.0 p.0 w (in_row c.objects j q.0 q.1) (in_row c.objects i p.0 p.1) q.2 p.2 in
      once c.origin c.objects sound.distinct i j p.0 p.1 (q.1 ∙ ap Some same);
}

-- the bases of distinct objects are distinct
heads_apart : (origin : ℕ) (q : Extent) (gone rest : List Extent) → AllByRecursion (λ y. eqb (first_word origin q) y ≡ false) (map (first_word origin) (gone ++ rest)) → AllByRecursion (λ y. eqb q.base y ≡ false) (map (λ (e : Extent). e.base) gone)
heads_apart origin q [] rest all = tt
heads_apart origin q (f ∷ gone) rest all = (ne_eqb q.base f.base (λ same. differ (first_word origin q) (first_word origin f) all.0 (ap (word_index origin) same)), heads_apart origin q gone rest all.1)

bases_distinct : (origin : ℕ) (gone rest : List Extent) → IsDistinct nat_eq (map (first_word origin) (gone ++ rest)) → IsDistinct nat_eq (map (λ (e : Extent). e.base) gone)
bases_distinct origin [] rest d = IsDistinct-from_count nat_eq_equiv [] refl
bases_distinct origin (g ∷ gone) rest d = IsDistinct-cons nat_eq g.base (map (λ (e : Extent). e.base) gone)
    (heads_apart origin g gone rest (IsDistinct-head nat_eq (first_word origin g) (map (first_word origin) (gone ++ rest)) d)) (bases_distinct origin gone rest (IsDistinct-tail nat_eq (first_word origin g) (map (first_word origin) (gone ++ rest)) d))

mapped : (gone : List Extent) (e : Extent) → Contains gone e → Contains (map (λ (x : Extent). x.base) gone) e.base
mapped gone e has = let at : slice_get (map (λ (x : Extent). x.base) gone) has.0 ≡ Some e.base = slice_get-map (λ (x : Extent). x.base) gone has.0 ∙ ap (option_map (λ (x : Extent). x.base)) (slice_get-get_or gone has.0 e has.1 ∙ ap Some has.2) in in_row _ has.0 e.base at

mapped_from : (gone : List Extent) (b : ℕ) → Contains (map (λ (x : Extent). x.base) gone) b → (e : Extent) × Contains gone e × (e.base ≡ b)
mapped_from gone b has = All-contains (λ y. (e : Extent) × Contains gone e × (e.base ≡ y)) (map (λ (x : Extent). x.base) gone) b
    (All-map (λ y. (e : Extent) × Contains gone e × (e.base ≡ y)) (λ (x : Extent). x.base) gone (λ k d lt. (get_or gone k d, Contains-get_or gone k d lt, refl))) has

pub are_bases : (gone : List Extent) → AreBases gone (map (λ (e : Extent). e.base) gone)
are_bases gone = record { of = mapped_from gone; all = mapped gone }

module _ (c : PlainContents) (sound : IsLaidOut c) (s : Heap) (h : StandsFor c s) where
  pub roots_are : root_words s ≡ root_words_of c.roots
  roots_are = ap (λ ms. flat_map words_of_slot ms ++ s.globals) h.mutators ∙ ap (λ gs. flat_map words_of_slot c.roots.mutators ++ gs) h.globals

  -- where a word points into, the heap has an object that it reads
  pub reads_at : (w i : ℕ) (p : PointsIntoNth c.objects w i) → (e : Extent) → slice_get c.objects i ≡ Some e → (o : Object) × PointsIntoObject s w e.base o
  reads_at w i p e at =
      let o = reads_object c sound s h e (in_row c.objects i e at) w (subst (λ (x : Extent). PointsInto w x.base x.length) (same_Some p.0 e (sym p.1 ∙ at)) p.2) in (o.0, o.1)

  pub reached_out : (i : ℕ) (e : Extent) → IsReachedNth c.origin (root_words_of c.roots) c.words c.objects i → slice_get c.objects i ≡ Some e → Reached s e.base
  reached_out i e (by_root {w = w} among p) at = root (subst (λ ws. Contains ws w) (sym roots_are) among) (reads_at w i p e at).1
  reached_out i e (by_link {i = from} {w = w} {e = f} r there among p) at =
      let kept = h.kept f (in_row c.objects from f there) in
      let link = read_of f.kind (words_at c.origin c.words f) w among in
      word (reached_out from f r there) kept.1 (kept.2.kind ∙ link.0) (subst (λ ws. Contains ws w) (sym kept.2.words) link.1) (reads_at w i p e at).1

  -- the object that a word reads stands in the row
  pub points_at : (w base : ℕ) (o : Object) → PointsIntoObject s w base o → (i : ℕ) × (e : Extent) × (slice_get c.objects i ≡ Some e) × (e.base ≡ base) × PointsInto w e.base e.length
  points_at w base o r =
      let e = extent_of c sound s h base o r.0 in
      let i = at_place c.objects e.0 e.1 in
      (i.0, e.0, i.1, e.2, subst (λ b. PointsInto w b e.0.length) (sym e.2) (subst (λ n. PointsInto w base n) (sym e.3) r.1))

  pub reached_in : (base : ℕ) → Reached s base → (i : ℕ) × (e : Extent) × (slice_get c.objects i ≡ Some e) × (e.base ≡ base) × IsReachedNth c.origin (root_words_of c.roots) c.words c.objects i
  reached_in base (given has none) = absurd none
  reached_in base (root {w = w} {o = o} among r) =
      let p = points_at w base o r in (p.0, p.1, p.2, p.3, by_root (subst (λ ws. Contains ws w) roots_are among) (p.1, p.2, p.4))
  reached_in base (word {from = from} {w = w} {p = q} {o = o} inner has normal among r) =
      let f = reached_in from inner in
      let kept = h.kept f.1 (in_row c.objects f.0 f.1 f.2) in
      let same : kept.0 ≡ q = same_Some kept.0 q (sym kept.1 ∙ ap s.objects f.3 ∙ has) in
      let kind : f.1.kind ≡ Normal = sym kept.2.kind ∙ ap (λ (x : Object). x.kind) same ∙ normal in
      let words : Contains (words_at c.origin c.words f.1) w = subst (λ ws. Contains ws w) (sym (ap (λ (x : Object). x.words) same) ∙ kept.2.words) among in
      let p = points_at w base o r in
      (p.0, p.1, p.2, p.3, by_link f.4 f.2 (read_in f.1.kind (words_at c.origin c.words f.1) w kind words) (p.1, p.2, p.4))

  -- what is not marked is not reached
  pub not_reached : (marks : List Bool) → MarksReached c.origin (root_words_of c.roots) c.words c.objects marks → (i : ℕ) (e : Extent) → slice_get c.objects i ≡ Some e → get_or marks i false ≡ false → Reached s e.base → ⊥
  not_reached marks m i e at unmarked r =
      let f = reached_in e.base r in
      let here : PointsInto e.base e.base e.length = reads_base c sound e (in_row c.objects i e at) e.base refl in
      let there : PointsInto e.base f.1.base f.1.length = reads_base c sound f.1 (in_row c.objects f.0 f.1 f.2) e.base (sym f.3) in
      let same : i ≡ f.0 = (sound_apart c sound).one e.base i f.0 (e, at, here) (f.1, f.2, there) in
      true≢false (sym (m.marked f.0 f.4) ∙ ap (λ k. get_or marks k false) (sym same) ∙ unmarked)

  -- objects that are not marked go
  module _ (marks : List Bool) (m : MarksReached c.origin (root_words_of c.roots) c.words c.objects marks) (stay : List Extent) (n : ℕ) (parts : Parts c.objects marks stay n) where
    abbrev bases : List ℕ
    bases = map (λ (e : Extent). e.base) parts.gone

    unreached : (e : Extent) → Contains parts.gone e → Reached s e.base → ⊥
    unreached e gone r = let u = parts.unset e gone in not_reached marks m u.0 e u.1 u.2 r

    takes : TakesOut s bases (Count n) (without s bases)
    takes = record {
      objects = All-map (λ b. (o : Object) × HasObject s b o) (λ (e : Extent). e.base) parts.gone
          (λ k d lt. let o = h.kept (get_or parts.gone k d) (was_gone c sound parts.gone stay parts.all (get_or parts.gone k d) (Contains-get_or parts.gone k d lt)) in (o.0, o.1));
      distinct = bases_distinct c.origin parts.gone stay (distinct_all c sound parts.gone stay parts.all);
      unreached = All-map (λ b. Reached s b → ⊥) (λ (e : Extent). e.base) parts.gone (λ k d lt. unreached (get_or parts.gone k d) (Contains-get_or parts.gone k d lt));
      number = ap Count (parts.number ∙ sym (length-map parts.gone (λ (e : Extent). e.base)));
      after = refl;
    }

    goes : (base : ℕ) (o : Object) → HasObject s base o → (Reached s base → ⊥) → Contains bases base
    goes base o has out =
        let e = extent_of c sound s h base o has in
        ⊎_elim
        (λ gone. subst (Contains bases) e.2 (mapped parts.gone e.0 gone))
        (λ stays. let u = parts.set e.0 stays in absurd (out (subst (Reached s) e.2 (reached_out u.0 e.0 (m.reached u.0 u.2) u.1))))
        (stays_in c sound parts.gone stay parts.all e.0 e.1)

    pub full : CollectsFully s (Count n) (without s bases)
    full = record { bases = bases; takes = takes; all = goes }

    pub collected : (words : List ℕ) (links : List Link) → LeavesAlong c stay words links → (s' : Heap) × CollectsFully s (Count n) s' × StandsFor (record c { words = words; objects = stay; links = links }) s'
    collected words links along = (
      without s bases,
      full,
      rest_stands c sound parts.gone stay parts.all bases (are_bases parts.gone) words links along s h,
    )

pub collects : (c : PlainContents) → IsLaidOut c → (marks : List Bool) → MarksReached c.origin (root_words_of c.roots) c.words c.objects marks → (stay : List Extent) (n : ℕ) → Parts c.objects marks stay n
    → (words : List ℕ) (links : List Link) → LeavesAlong c stay words links → IsCollected c n (record c { words = words; objects = stay; links = links })
collects c sound marks m stay n parts words links along s h = collected c sound s h marks m stay n parts words links along

pub garbage : (c : PlainContents) → IsLaidOut c → (marks : List Bool) → MarksReached c.origin (root_words_of c.roots) c.words c.objects marks → (stay : List Extent) (n : ℕ) → Parts c.objects marks stay n → HasGarbage c n
garbage c sound marks m stay n parts s h = (_, full c sound s h marks m stay n parts)

-- each object's words are in a row of all words
pub lie_in : (c : PlainContents) → IsLaidOut c → (row : List ℕ) → length row ≡ PAGE_WORDS * c.pages → All (LiesIn c.origin row) c.objects
lie_in c sound row long k d lt =
    let e : Extent = get_or c.objects k d in
    let i : IsInHeap c.origin c.pages e = sound.in_heap k d lt in
    record { start = i.start; aligned = let whole = i.aligned in omega arith; some = i.some; ends = omega (arith, i.start, i.aligned, i.ends) }

pub all_lie : (c : PlainContents) → IsLaidOut c → All (LiesIn c.origin c.words) c.objects
all_lie c sound = lie_in c sound c.words sound.words

-- there is room for as many as before
pub room_kept : (n : ℕ) (l l' : Listing) → HasListRoom n l → KeepsRoom l l' → HasListRoom n l'
room_kept n l l' room kept = let marks = room.marks in let order = room.order in let same = kept.marks in let more = kept.order in record { marks = omega arith; order = omega arith }

-- each object of a directory has a place among the marks
pub marks_room : (d : Directory) (l l' : Listing) → HasListRoom (length d.owners.items) l → KeepsRoom l l' → length d.objects.items ≤ length l'.marks.items
marks_room d l l' room kept = let r = room_kept (length d.owners.items) l l' room kept in let marks = r.marks in let few = d.few in omega arith
