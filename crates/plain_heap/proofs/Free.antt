-- Objects go, and the plain heap and the heap that it stands for are left without them.
use Rattle.std.proofs.Common.{◌≡◌, ℕ, ◌+◌, ◌*◌, ◌≤◌, zero, suc, false, List, [], ◌∷◌, ◌++◌, map, get_or, length, ◌<◌, eqb, refl, sym, ap, ◌∙◌, subst, arith, ⊎_elim, ◌⊎◌}
use Rattle.std.specs.Prelude.{filter, true, ◌≢◌, Some, Contains, IsPermutation, slice_get, nat_eq}
use Rattle.std.specs.List.{IsDistinct, AllByRecursion, swap_remove}
use Rattle.std.proofs.lemmas.List.Elements.{All-contains, Contains-get_or, Contains-append_left, Contains-append_right, Contains-append_cases}
use Rattle.std.proofs.lemmas.List.Sorted.{Contains-permutation, IsPermutation-map, IsPermutation-sym, IsPermutation-swap_remove}
use Rattle.std.proofs.lemmas.Map.Keys.{IsDistinct-IsPermutation, IsDistinct-head, IsDistinct-tail}
use Rattle.std.proofs.lemmas.Option.{slice_get_within, get_or_from_slice_get}
use Rattle.words.specs.declared.refusal.Refusal.TheVariants.{NotBase}
use Rattle.words.specs.declared.limits.TheConstants.{WORD_BYTES}
use Rattle.heap_spec.specs.declared.call.Call.TheVariants.{Free}
use Rattle.heap_spec.specs.declared.reply.Reply.TheVariants.{Done, Refused}
use Rattle.heap_spec.specs.Layout.{PointsInto}
use Rattle.heap_spec.specs.Heap.{Heap, Object, Mutator, HasObject, without, without_at, loses_word, cleared, with_cleared}
use Rattle.heap_spec.specs.Steps.{Acts, acts, register}
use Rattle.heap_spec.proofs.Objects.{without_some, without_other}
use Rattle.heap_spec.proofs.Links.{left_by, stays_by}
use Rattle.links.specs.declared.row.Link.{Link}
use Rattle.links.specs.Named.{AreNamed}
use Rattle.links.specs.Leaving.{ClearsWords, clears_with, stays_with, word_index}
use Rattle.links.proofs.Leaving.{PointsIntoOne, TellObjects, named_along, word_same}
use Rattle.roots.specs.Roots.{HasMutator}
use Rattle.plain_heap.specs.declared.extent.Extent.{Extent}
use Rattle.plain_heap.specs.PlainContents.{PlainContents, IsLaidOut, IsInHeap, first_word}
use Rattle.plain_heap.specs.Standing.{StandsFor, IsShown, words_at}
use Rattle.plain_heap.specs.Along.{holds_word, has_base}
use Rattle.plain_heap.proofs.Stands.{StepsCall, mutator_at, keeps_all}
use Rattle.plain_heap.proofs.Lists.{the_one}
use Rattle.plain_heap.proofs.Objects.{in_heap, object_of, extent_of, reads_object}
use Rattle.plain_heap.proofs.Answering.{legible}
use Rattle.plain_heap.proofs.Leaving.{holds_yes, holds_no, held_by, base_yes, base_no, words_along}

flips : (x y : ℕ) → eqb x y ≡ eqb y x
flips x y = grind arith

pub differ : (a b : ℕ) → eqb a b ≡ false → a ≢ b
differ a b e = grind arith

-- no object of the row has a first word that none of their first words is equal to
first_words_apart : (origin q : ℕ) (row : List Extent) → AllByRecursion (λ y. eqb q y ≡ false) (map (first_word origin) row) → (f : Extent) (k : ℕ) → k < length row → get_or row k f ≡ f → eqb q (first_word origin f) ≡ false
first_words_apart origin q [] all f k lt is = absurd (omega arith)
first_words_apart origin q (g ∷ row) all f zero lt is = subst (λ (x : Extent). eqb q (first_word origin x) ≡ false) is all.0
first_words_apart origin q (g ∷ row) all f (suc k) lt is = first_words_apart origin q row all.1 f k (omega arith) is

-- the first of a row whose first words are distinct stands nowhere else
pub first_apart : (origin : ℕ) (row : List Extent) (g : Extent) → IsDistinct nat_eq (first_word origin g ∷ map (first_word origin) row) → (j : ℕ) (e : Extent) → slice_get row j ≡ Some e → g ≡ e → ⊥
first_apart origin row g d j e at same =
    differ (first_word origin g) (first_word origin e) (first_words_apart origin (first_word origin g) row (IsDistinct-head nat_eq (first_word origin g) (map (first_word origin) row) d) e j (slice_get_within row j e at) (get_or_from_slice_get row j e e at)) (ap (first_word origin) same)

-- what is behind distinct ones is distinct, and none of it is among them
rest_distinct : (origin : ℕ) (gone rest : List Extent) → IsDistinct nat_eq (map (first_word origin) (gone ++ rest)) → IsDistinct nat_eq (map (first_word origin) rest)
rest_distinct origin [] rest d = d
rest_distinct origin (g ∷ gone) rest d = rest_distinct origin gone rest (IsDistinct-tail nat_eq (first_word origin g) (map (first_word origin) (gone ++ rest)) d)

rest_apart : (origin : ℕ) (gone rest : List Extent) → IsDistinct nat_eq (map (first_word origin) (gone ++ rest)) → (e f : Extent) → Contains gone e → Contains rest f → first_word origin e ≢ first_word origin f
rest_apart origin [] rest d e f there has = absurd (let lt = there.1 in omega arith)
rest_apart origin (g ∷ gone) rest d e f there has = ⊎_elim
    (λ first. let here = Contains-append_right gone rest f has in
    differ _ _ (subst (λ (x : Extent). eqb (first_word origin x) (first_word origin f) ≡ false) (the_one g e first) (first_words_apart origin (first_word origin g) (gone ++ rest) (IsDistinct-head nat_eq (first_word origin g) (map (first_word origin) (gone ++ rest)) d) f here.0 here.1 here.2)))
    (λ later. rest_apart origin gone rest (IsDistinct-tail nat_eq (first_word origin g) (map (first_word origin) (gone ++ rest)) d) e f later has)
    (Contains-append_cases (g ∷ []) gone e there)

-- The links went along with the objects that are gone: these are the objects that stay.
pub record LeavesAlong (c : PlainContents) (rest : List Extent) (words : List ℕ) (links : List Link) : Type 0 where
  pub cleared : ClearsWords c.origin (holds_word rest) (has_base rest) c.links c.words words
  pub left : links ≡ filter (stays_with (holds_word rest) (has_base rest)) c.links

-- the same by equations
pub along_of : (c : PlainContents) (rest : List Extent) (row row' words : List ℕ) (links : List Link) → row ≡ c.words → words ≡ row' → ClearsWords c.origin (holds_word rest) (has_base rest) c.links row row' → links ≡ filter (stays_with (holds_word rest) (has_base rest)) c.links
    → LeavesAlong c rest words links
along_of c rest row row' words links old new clears stays = record {
  cleared = subst (λ ws. ClearsWords c.origin (holds_word rest) (has_base rest) c.links ws words) old (subst (ClearsWords c.origin (holds_word rest) (has_base rest) c.links row) (sym new) clears);
  left = stays;
}

-- the bases of the objects that are gone, in any order
pub record AreBases (gone : List Extent) (bases : List ℕ) : Type 0 where
  pub of : (b : ℕ) → Contains bases b → (e : Extent) × Contains gone e × (e.base ≡ b)
  pub all : (e : Extent) → Contains gone e → Contains bases e.base

-- the rest of a row without some of its objects
module _ (c : PlainContents) (sound : IsLaidOut c) (gone rest : List Extent) (perm : IsPermutation c.objects (gone ++ rest)) where
  pub was_in : (f : Extent) → Contains rest f → Contains c.objects f
  was_in f has = Contains-permutation (gone ++ rest) c.objects f (IsPermutation-sym c.objects (gone ++ rest) perm) (Contains-append_right gone rest f has)

  pub was_gone : (f : Extent) → Contains gone f → Contains c.objects f
  was_gone f has = Contains-permutation (gone ++ rest) c.objects f (IsPermutation-sym c.objects (gone ++ rest) perm) (Contains-append_left gone rest f has)

  pub stays_in : (f : Extent) → Contains c.objects f → Contains gone f ⊎ Contains rest f
  stays_in f has = Contains-append_cases gone rest f (Contains-permutation c.objects (gone ++ rest) f perm has)

  pub distinct_all : IsDistinct nat_eq (map (first_word c.origin) (gone ++ rest))
  distinct_all = IsDistinct-IsPermutation nat_eq flips (map (first_word c.origin) c.objects) (map (first_word c.origin) (gone ++ rest)) (IsPermutation-map (first_word c.origin) c.objects (gone ++ rest) perm) sound.distinct

  other_base : (e f : Extent) → Contains gone e → Contains rest f → e.base ≢ f.base
  other_base e f there has same = rest_apart c.origin gone rest distinct_all e f there has (ap (word_index c.origin) same)

  pub rest_sound : (words : List ℕ) (links : List Link) → length words ≡ length c.words → IsLaidOut (record c { words = words; objects = rest; links = links })
  rest_sound words links size = record {
    pages = sound.pages;
    starts = sound.starts;
    past_zero = sound.past_zero;
    fits = sound.fits;
    words = size ∙ sound.words;
    in_heap = λ k d lt. All-contains (IsInHeap c.origin c.pages) c.objects (get_or rest k d) sound.in_heap (was_in (get_or rest k d) (Contains-get_or rest k d lt));
    distinct = rest_distinct c.origin gone rest distinct_all;
    apart = λ f g w hf hg rf rg. sound.apart f g w (was_in f hf) (was_in g hg) rf rg;
  }

  -- the heap without them is what the rest stands for, once their links have gone along
  module _ (bases : List ℕ) (are : AreBases gone bases) (words : List ℕ) (links : List Link) (along : LeavesAlong c rest words links) (s : Heap) (h : StandsFor c s) where
    not_gone : (f : Extent) → Contains rest f → Contains bases f.base → ⊥
    not_gone f has among = let e = are.of f.base among in other_base e.0 f e.1 has e.2

    -- where an object that stays lies
    rest_of : (b : ℕ) (o : Object) → HasObject s b o → (Contains bases b → ⊥) → (f : Extent) × Contains rest f × (f.base ≡ b) × (f.length ≡ length o.words)
    rest_of b o has out =
        let f = extent_of c sound s h b o has in
        ⊎_elim (λ there. absurd (out (subst (Contains bases) f.2 (are.all f.0 there)))) (λ stays. (f.0, stays, f.2, f.3)) (stays_in f.0 f.1)

    tells : TellObjects (without_at s.objects bases) (holds_word rest) (has_base rest)
    tells = record {
      held = λ a b o is reads.
          let was = without_some s.objects bases b o is in
          let f = rest_of b o was.1 was.0 in
          holds_yes rest f.0 a f.1 (rw (f.2, f.3) reads);
      bare = λ a none. holds_no rest a (λ k d lt reads.
          let f : Extent = get_or rest k d in
          let has : Contains rest f = Contains-get_or rest k d lt in
          let o = object_of c sound s h f (was_in f has) in
          none f.base o.0 (without_other s.objects bases f.base (not_gone f has) ∙ o.1) (rw o.2 reads));
      there = λ b o is. let was = without_some s.objects bases b o is in let f = rest_of b o was.1 was.0 in base_yes rest f.0 b f.1 f.2;
      gone = λ b none. base_no rest b (λ f has same.
          let o = object_of c sound s h f (was_in f has) in
          none o.0 (subst (λ x. without_at s.objects bases x ≡ Some o.0) same (without_other s.objects bases f.base (not_gone f has) ∙ o.1)));
    }

    low : (a : ℕ) → holds_word rest a ≡ true → c.origin ≤ a
    low a is = let e = held_by rest a is in let i : IsInHeap c.origin c.pages e.0 = in_heap c sound e.0 (was_in e.0 e.1) in let from = e.2.0 in let start = i.start in omega arith

    one : PointsIntoOne s
    one = (legible c sound s h).one

    -- the words of an object that stays
    words_left : (f : Extent) → Contains rest f → cleared (loses_word s bases) f.base (words_at c.origin c.words f) ≡ words_at c.origin words f
    words_left f has = words_along c.origin c.words words c.pages f inside sound.words along.cleared.size (loses_word s bases) (clears_with c.origin (holds_word rest) (has_base rest) c.links) same along.cleared.words
      where
        inside : IsInHeap c.origin c.pages f
        inside = in_heap c sound f (was_in f has)

        same : (i : ℕ) → i < f.length → clears_with c.origin (holds_word rest) (has_base rest) c.links (word_index c.origin f.base + i) ≡ loses_word s bases (f.base + WORD_BYTES * i)
        same i lt =
            let start = inside.start in let even = inside.aligned in
            let at : word_index c.origin f.base + i ≡ word_index c.origin (f.base + WORD_BYTES * i) = omega arith in
            ap (clears_with c.origin (holds_word rest) (has_base rest) c.links) at
            ∙ word_same s bases (holds_word rest) (has_base rest) tells h.distinct one c.origin low (f.base + WORD_BYTES * i) (omega arith) (holds_yes rest f (f.base + WORD_BYTES * i) has (omega arith, omega arith)) h.links

    pub rest_stands : StandsFor (record c { words = words; objects = rest; links = links }) (without s bases)
    rest_stands = record {
      pages = h.pages;
      mutators = h.mutators;
      globals = h.globals;
      request_words = h.request_words;
      kept = λ f hf. let old = h.kept f (was_in f hf) in (
        with_cleared (loses_word s bases) f.base old.0,
        stays_by s bases f.base old.0 old.1 (not_gone f hf),
        record { kind = old.2.kind; words = ap (cleared (loses_word s bases) f.base) old.2.words ∙ words_left f hf },
      );
      only = λ b p is. let left = left_by s bases b p is in let f = rest_of b left.object left.has left.out in (f.0, f.1, f.2);
      born = λ b p is. let left = left_by s bases b p is in subst (λ n. (1 ≤ n) × (n ≤ s.births)) (ap (λ (x : Object). x.birth) left.is) (h.born b left.object left.has);
      distinct = λ a b p q ip iq same.
          let u = left_by s bases a p ip in let v = left_by s bases b q iq in
          h.distinct a b u.object v.object u.has v.has (ap (λ (z : Object). z.birth) u.is ∙ same ∙ sym (ap (λ (z : Object). z.birth) v.is));
      links = subst (λ row. AreNamed (without s bases).objects row (without s bases).links) (sym along.left) (named_along s bases (holds_word rest) (has_base rest) tells h.distinct one h.links);
    }

one_base : (e : Extent) → AreBases (e ∷ []) (e.base ∷ [])
one_base e = record {
  of = λ b among. (e, (0, omega arith, refl), the_one e.base b among);
  all = λ f there. subst (λ (x : Extent). Contains (e.base ∷ []) x.base) (the_one e f there) (0, omega arith, refl);
}

-- an object is freed
pub frees : (c : PlainContents) (sound : IsLaidOut c) (e : Extent) (rest : List Extent) → IsPermutation c.objects (e ∷ rest) → (words : List ℕ) (links : List Link) → LeavesAlong c rest words links
    → (k r : ℕ) (m : Mutator) → HasMutator c.roots k m → Contains c.objects e → e.base ≡ register m r → StepsCall c k (Free r) Done (record c { words = words; objects = rest; links = links })
frees c sound e rest perm words links along k r m at has same s h = (
  without s (e.base ∷ []),
  acts (mutator_at c s h k m at) (subst (λ (b : ℕ). Acts s k m (Free r) Done (without s (b ∷ []))) (sym same) (Acts.freed (subst (λ (b : ℕ). HasObject s b kept.0) same kept.1))),
  rest_stands c sound (e ∷ []) rest perm (e.base ∷ []) (one_base e) words links along s h,
)
  where
    kept : (o : Object) × HasObject s e.base o × IsShown c.origin c.words e o
    kept = h.kept e has

-- an address inside an object that is not its base
pub refuses_inside : (c : PlainContents) (sound : IsLaidOut c) (i : ℕ) (e : Extent) (k r : ℕ) (m : Mutator) → HasMutator c.roots k m
    → slice_get c.objects i ≡ Some e → PointsInto (register m r) e.base e.length → e.base ≢ register m r
    → StepsCall c k (Free r) (Refused NotBase) c
refuses_inside c sound i e k r m at there reads apart =
    keeps_all c k (Free r) (Refused NotBase) m at
    (λ s h.
    let has : Contains c.objects e = (i, slice_get_within c.objects i e there, get_or_from_slice_get c.objects i e e there) in
    let o = reads_object c sound s h e has (register m r) reads in
    Acts.free_inside o.1 apart)

-- the object at a place goes, and the last one takes the place
module _ (c : PlainContents) (sound : IsLaidOut c) (i : ℕ) (e : Extent) (objects : List Extent) (there : slice_get c.objects i ≡ Some e) (removed : objects ≡ swap_remove c.objects i e) where
  same_objects : IsPermutation c.objects ((e ∷ []) ++ objects)
  same_objects = rw removed (IsPermutation-swap_remove c.objects i e (slice_get_within c.objects i e there) (sym (get_or_from_slice_get c.objects i e e there)))

  pub remove_sound : (words : List ℕ) (links : List Link) → length words ≡ length c.words → IsLaidOut (record c { words = words; objects = objects; links = links })
  remove_sound = rest_sound c sound (e ∷ []) objects same_objects

  pub removes : (words : List ℕ) (links : List Link) → LeavesAlong c objects words links → (k r : ℕ) (m : Mutator) → HasMutator c.roots k m → e.base ≡ register m r
      → StepsCall c k (Free r) Done (record c { words = words; objects = objects; links = links })
  removes words links along k r m at same = frees c sound e objects same_objects words links along k r m at (i, slice_get_within c.objects i e there, get_or_from_slice_get c.objects i e e there) same
