-- Flags of objects: how they are set, and what they tell of a heap.
use Rattle.std.proofs.Common.{◌≡◌, ◌↔◌, ◌⊎◌, ℕ, ◌+◌, ◌<◌, ◌≤◌, Bool, true, false, List, [], ◌∷◌, length, get_or, refl, sym, ap, ◌∙◌, subst, arith, inl, inr, ⊎_elim}
use Rattle.std.specs.Prelude.{Some, All, Contains, slice_get, slice_set}
use Rattle.std.proofs.lemmas.Bool.{true≢false, cases_eq, cases_lt}
use Rattle.std.proofs.lemmas.Option.{same_Some, slice_get_within}
use Rattle.std.proofs.lemmas.List.{length-set, get_or-set_same, get_or-set_other, get_or_past}
use Rattle.std.proofs.lemmas.List.Elements.{All-contains}
use Rattle.words.specs.declared.class.Kind.TheVariants.{Normal}
use Rattle.heap_spec.specs.Layout.{PointsInto}
use Rattle.heap_spec.specs.Heap.{Heap, Object, HasObject, PointsIntoObject}
use Rattle.heap_spec.specs.Closure.{Reached}
use Rattle.heap_spec.specs.declared.call.Call.{Call}
use Rattle.heap_spec.specs.Laws.{IsNoAlloc}
use Rattle.heap_spec.specs.Touching.{LedTo, first, next, HasApartObjects, IsBrought, StandsIn}
use Rattle.heap_spec.proofs.Touching.{stands_one}
use Rattle.links.specs.Leaving.{word_index}
use Rattle.roots.specs.Roots.{root_words_of}
use Rattle.plain_heap.specs.declared.extent.Extent.{Extent}
use Rattle.plain_heap.specs.PlainContents.{PlainContents, IsLaidOut, IsInHeap}
use Rattle.plain_heap.specs.Reached.{IsReachedNth, by_root, by_link, MarksReached, links_of}
use Rattle.plain_heap.specs.Standing.{StandsFor, words_at}
use Rattle.plain_heap.specs.Flags.{IsFlagged, HasFlags, FlagsMarked, FlagsReached, FlagsLed, FlagsBrought}
use Rattle.plain_heap.proofs.Objects.{in_heap, extent_of, reads_object, reads_nothing}
use Rattle.plain_heap.proofs.Collects.{in_row, read_of, read_in, reads_at, points_at, reached_out, reached_in}

-- the flags of the marked ones of the first objects are set
pub record MarkedSoFar (origin : ℕ) (row : List Extent) (marks old : List Bool) (done : ℕ) (new : List Bool) : Type 0 where
  pub size : length new ≡ length old
  pub keeps : (k : ℕ) → get_or old k false ≡ true → get_or new k false ≡ true
  pub sets : (i : ℕ) (e : Extent) → i < done → slice_get row i ≡ Some e → get_or marks i false ≡ true → word_index origin e.base < length old → IsFlagged origin new e.base
  pub only : (k : ℕ) → get_or new k false ≡ true → (get_or old k false ≡ true) ⊎ ((i : ℕ) × (e : Extent) × (slice_get row i ≡ Some e) × (get_or marks i false ≡ true) × (word_index origin e.base ≡ k))

-- a flag after one is set
set_keeps : (flags : List Bool) (k at : ℕ) → get_or flags k false ≡ true → get_or (slice_set flags at true) k false ≡ true
set_keeps flags k at is = ⊎_elim
    (λ e. subst (λ j. get_or (slice_set flags at true) j false ≡ true) (sym e) (get_or-set_same flags at true false (within (subst (λ j. get_or flags j false ≡ true) e is))))
    (λ ne. get_or-set_other flags at k true false ne ∙ is)
    (cases_eq k at)
  where
    within : get_or flags at false ≡ true → at < length flags
    within has = ⊎_elim (λ lt. lt) (λ past. absurd (true≢false (sym has ∙ get_or_past flags at false past))) (cases_lt at (length flags))

set_only : (flags : List Bool) (k at : ℕ) → get_or (slice_set flags at true) k false ≡ true → (get_or flags k false ≡ true) ⊎ (at ≡ k)
set_only flags k at is = ⊎_elim (λ e. inr (sym e)) (λ ne. inl (sym (get_or-set_other flags at k true false ne) ∙ is)) (cases_eq k at)

module _ (origin : ℕ) (row : List Extent) (marks old : List Bool) where
  pub marked_more : (done : ℕ) (e : Extent) (new flags : List Bool) → MarkedSoFar origin row marks old done flags → slice_get row done ≡ Some e → get_or marks done false ≡ true → new ≡ slice_set flags (word_index origin e.base) true
      → MarkedSoFar origin row marks old (done + 1) new
  marked_more done e new flags h at is sets = subst (MarkedSoFar origin row marks old (done + 1)) (sym sets) (record {
    size = length-set flags (word_index origin e.base) true ∙ h.size;
    keeps = λ k has. set_keeps flags k (word_index origin e.base) (h.keeps k has);
    sets = λ i f lt there marked within. ⊎_elim
        (λ same.
        let is_e : f ≡ e = same_Some f e (sym there ∙ ap (slice_get row) same ∙ at) in
        let size = h.size in
        subst (λ (x : Extent). IsFlagged origin (slice_set flags (word_index origin e.base) true) x.base) (sym is_e) (get_or-set_same flags (word_index origin e.base) true false (long e f is_e within)))
        (λ other. set_keeps flags (word_index origin f.base) (word_index origin e.base) (h.sets i f (omega arith) there marked within))
        (cases_eq i done);
    only = λ k has. ⊎_elim (λ before. h.only k before) (λ same. inr (done, e, at, is, same)) (set_only flags k (word_index origin e.base) has);
  })
    where
      long : (x f : Extent) → f ≡ x → word_index origin f.base < length old → word_index origin x.base < length flags
      long x f same within = let size = h.size in let lt = subst (λ (y : Extent). word_index origin y.base < length old) same within in omega arith

  pub marked_past : (done : ℕ) (new flags : List Bool) → MarkedSoFar origin row marks old done flags → get_or marks done false ≡ false → new ≡ flags → MarkedSoFar origin row marks old (done + 1) new
  marked_past done new flags h not same = subst (MarkedSoFar origin row marks old (done + 1)) (sym same) (record {
    size = h.size;
    keeps = h.keeps;
    sets = λ i f lt there marked within. ⊎_elim
        (λ is. absurd (true≢false (sym marked ∙ ap (λ k. get_or marks k false) is ∙ not)))
        (λ other. h.sets i f (omega arith) there marked within)
        (cases_eq i done);
    only = h.only;
  })

  pub marked_all : (done : ℕ) (new : List Bool) → length row ≤ done → MarkedSoFar origin row marks old done new → FlagsMarked origin row marks old new
  marked_all done new past h = record {
    size = h.size;
    keeps = h.keeps;
    sets = λ i e at is within. h.sets i e (let lt = slice_get_within row i e at in omega arith) at is within;
    only = h.only;
  }

-- objects have births, words and bytes of their own
pub apart : (c : PlainContents) → IsLaidOut c → (s : Heap) → StandsFor c s → HasApartObjects s
apart c sound s h = record {
  births = h.distinct;
  born = λ base o has. (h.born base o has).1;
  some = λ base o has. let e = extent_of c sound s h base o has in let i = (in_heap c sound e.0 e.1).some in let size = e.3 in omega arith;
  one = λ w a b o p r q.
      let e = extent_of c sound s h a o r.0 in
      let f = extent_of c sound s h b p q.0 in
      let here : PointsInto w e.0.base e.0.length = subst (λ k. PointsInto w k e.0.length) (sym e.2) (subst (λ n. PointsInto w a n) (sym e.3) r.1) in
      let there : PointsInto w f.0.base f.0.length = subst (λ k. PointsInto w k f.0.length) (sym f.2) (subst (λ n. PointsInto w b n) (sym f.3) q.1) in
      sym e.2 ∙ ap (λ (x : Extent). x.base) (sound.apart e.0 f.0 w e.1 f.1 here there) ∙ f.2;
  zero = λ base o r. let e = extent_of c sound s h base o r.0 in let i = (in_heap c sound e.0 e.1).start in let is = e.2 in let from = r.1.0 in omega arith;
}

-- two objects whose bases have one place are one
pub one_place : (c : PlainContents) (sound : IsLaidOut c) (e f : Extent) → Contains c.objects e → Contains c.objects f → word_index c.origin e.base ≡ word_index c.origin f.base → e.base ≡ f.base
one_place c sound e f has also same =
    let i : IsInHeap c.origin c.pages e = in_heap c sound e has in
    let j : IsInHeap c.origin c.pages f = in_heap c sound f also in
    omega (arith, i.start, i.aligned, j.start, j.aligned, same)

-- the base of an object has a flag
pub has_flag : (c : PlainContents) (sound : IsLaidOut c) (flags : List Bool) → HasFlags c.pages flags → (e : Extent) → Contains c.objects e → word_index c.origin e.base < length flags
has_flag c sound flags room e has =
    let i : IsInHeap c.origin c.pages e = in_heap c sound e has in omega (arith, i.start, i.aligned, i.some, i.ends, room)

single : (w v : ℕ) → Contains (w ∷ []) v → w ≡ v
single w v has = let lt : has.0 < 1 = has.1 in let none : has.0 ≡ 0 = omega arith in subst (λ j. get_or (w ∷ []) j v ≡ v) none has.2

-- what a word leads to, told by where it stands in the row
module _ (c : PlainContents) (sound : IsLaidOut c) (s : Heap) (h : StandsFor c s) (w : ℕ) where
  led_out : (i : ℕ) (e : Extent) → IsReachedNth c.origin (w ∷ []) c.words c.objects i → slice_get c.objects i ≡ Some e → LedTo s w e.base
  led_out i e (by_root {w = v} among p) at = subst (λ k. LedTo s k e.base) (sym (single w v among)) (first (reads_at c sound s h v i p e at).1)
  led_out i e (by_link {i = from} {w = v} {e = f} r there among p) at =
      let kept = h.kept f (in_row c.objects from f there) in
      let link = read_of f.kind (words_at c.origin c.words f) v among in
      next (led_out from f r there) kept.1 (kept.2.kind ∙ link.0) (subst (λ ws. Contains ws v) (sym kept.2.words) link.1) (reads_at c sound s h v i p e at).1

  led_in : (base : ℕ) → LedTo s w base → (i : ℕ) × (e : Extent) × (slice_get c.objects i ≡ Some e) × (e.base ≡ base) × IsReachedNth c.origin (w ∷ []) c.words c.objects i
  led_in base (first {o = o} r) = let p = points_at c sound s h w base o r in (p.0, p.1, p.2, p.3, by_root (0, omega arith, refl) (p.1, p.2, p.4))
  led_in base (next {from = from} {v = v} {p = q} {o = o} inner has normal among r) =
      let f = led_in from inner in
      let kept = h.kept f.1 (in_row c.objects f.0 f.1 f.2) in
      let same : kept.0 ≡ q = same_Some kept.0 q (sym kept.1 ∙ ap s.objects f.3 ∙ has) in
      let kind : f.1.kind ≡ Normal = sym kept.2.kind ∙ ap (λ (x : Object). x.kind) same ∙ normal in
      let words : Contains (words_at c.origin c.words f.1) v = subst (λ ws. Contains ws v) (sym (ap (λ (x : Object). x.words) same) ∙ kept.2.words) among in
      let p = points_at c sound s h v base o r in
      (p.0, p.1, p.2, p.3, by_link f.4 f.2 (read_in f.1.kind (words_at c.origin c.words f.1) v kind words) (p.1, p.2, p.4))

  led_first : {base : ℕ} → LedTo s w base → (at : ℕ) × (o : Object) × PointsIntoObject s w at o
  led_first (first {base = base} {o = o} r) = (base, o, r)
  led_first (next inner has normal among r) = led_first inner

-- what the marked objects' flags tell
module _ (c : PlainContents) (sound : IsLaidOut c) (marks old new : List Bool) (f : FlagsMarked c.origin c.objects marks old new) where
  -- the marked object that a flag is of
  pub flag_of : (s : Heap) → StandsFor c s → (base : ℕ) (o : Object) → HasObject s base o → IsFlagged c.origin new base
      → IsFlagged c.origin old base ⊎ ((i : ℕ) × (e : Extent) × (slice_get c.objects i ≡ Some e) × (get_or marks i false ≡ true) × (e.base ≡ base))
  flag_of s h base o has is = ⊎_elim
      (λ before. inl before)
      (λ x.
      let e = extent_of c sound s h base o has in
      inr (x.0, x.1, x.2, x.3, one_place c sound x.1 e.0 (in_row c.objects x.0 x.1 x.2) e.1 (x.4 ∙ ap (word_index c.origin) (sym e.2)) ∙ e.2))
      (f.only (word_index c.origin base) is)

  pub flag_sets : HasFlags c.pages old → (i : ℕ) (e : Extent) → slice_get c.objects i ≡ Some e → get_or marks i false ≡ true → IsFlagged c.origin new e.base
  flag_sets room i e at is = f.sets i e at is (has_flag c sound old room e (in_row c.objects i e at))

  pub led_flagged : (w : ℕ) → MarksReached c.origin (w ∷ []) c.words c.objects marks → FlagsLed c w old new
  led_flagged w m = record {
    size = f.size;
    keeps = λ base is. f.keeps (word_index c.origin base) is;
    only = λ s h base o has is. ⊎_elim
        (λ before. inl before)
        (λ x. inr (subst (LedTo s w) x.4 (led_out c sound s h w x.0 x.1 (m.reached x.0 x.3) x.2)))
        (flag_of s h base o has is);
    adds = λ room s h lead base led. let x = led_in c sound s h w base led in subst (IsFlagged c.origin new) x.3 (flag_sets room x.0 x.1 x.2 (m.marked x.0 x.4));
  }

  pub reached_flagged : ((k : ℕ) → get_or old k false ≡ false) → MarksReached c.origin (root_words_of c.roots) c.words c.objects marks → FlagsReached c new
  reached_flagged none m room s h base o has = (
    λ is. ⊎_elim
        (λ before. absurd (true≢false (sym before ∙ none (word_index c.origin base))))
        (λ x. subst (Reached s) x.4 (reached_out c sound s h x.0 x.1 (m.reached x.0 x.3) x.2))
        (flag_of s h base o has is),
    λ r. let x = reached_in c sound s h base r in subst (IsFlagged c.origin new) x.3 (flag_sets (let size = f.size in omega (arith, room)) x.0 x.1 x.2 (m.marked x.0 x.4)),
  )

-- nothing is to be done where a word points into nothing, or into an object with its flag
pub led_nothing : (c : PlainContents) → IsLaidOut c → (w : ℕ) (flags : List Bool) → All (λ e. PointsInto w e.base e.length → ⊥) c.objects → FlagsLed c w flags flags
led_nothing c sound w flags none = record {
  size = refl;
  keeps = λ base is. is;
  only = λ s h base o has is. inl is;
  adds = λ room s h lead base led. let x = led_first c sound s h w led in absurd (reads_nothing c sound s h w none x.0 x.1 x.2);
}

pub led_before : (c : PlainContents) → IsLaidOut c → (w : ℕ) (flags : List Bool) (e : Extent) → Contains c.objects e → PointsInto w e.base e.length → IsFlagged c.origin flags e.base → FlagsLed c w flags flags
led_before c sound w flags e has reads is = record {
  size = refl;
  keeps = λ base is. is;
  only = λ s h base o has is. inl is;
  adds = λ room s h lead base led. let o = reads_object c sound s h e has w reads in lead e.base o.0 o.1 is base led;
}

-- an object of which no word but 0 is read leads to itself alone
module _ (c : PlainContents) (sound : IsLaidOut c) (w : ℕ) (e : Extent) (has : Contains c.objects e) (reads : PointsInto w e.base e.length) (none : All (λ v. v ≡ 0) (links_of c.origin c.words e)) where
  led_alone : (s : Heap) → StandsFor c s → {base : ℕ} → LedTo s w base → base ≡ e.base
  led_alone s h (first {base = base} {o = o} r) = let mine = reads_object c sound s h e has w reads in (apart c sound s h).one w base e.base o mine.0 r mine.1
  led_alone s h (next {from = from} {v = v} {base = base} {p = p} {o = o} inner there normal among r) =
      let same : from ≡ e.base = led_alone s h inner in
      let kept = h.kept e has in
      let is : kept.0 ≡ p = same_Some kept.0 p (sym kept.1 ∙ ap s.objects (sym same) ∙ there) in
      let kind : e.kind ≡ Normal = sym kept.2.kind ∙ ap (λ (x : Object). x.kind) is ∙ normal in
      let words : Contains (words_at c.origin c.words e) v = subst (λ ws. Contains ws v) (sym (ap (λ (x : Object). x.words) is) ∙ kept.2.words) among in
      let zero : v ≡ 0 = All-contains (λ x. x ≡ 0) (links_of c.origin c.words e) v none (read_in e.kind (words_at c.origin c.words e) v kind words) in
      absurd ((apart c sound s h).zero base o (subst (λ k. PointsIntoObject s k base o) zero r))

  pub led_itself : (flags new : List Bool) → new ≡ slice_set flags (word_index c.origin e.base) true → FlagsLed c w flags new
  led_itself flags new is = subst (FlagsLed c w flags) (sym is) (record {
    size = length-set flags (word_index c.origin e.base) true;
    keeps = λ base before. set_keeps flags (word_index c.origin base) (word_index c.origin e.base) before;
    only = λ s h base o there set. ⊎_elim
        (λ before. inl before)
        (λ same.
        let f = extent_of c sound s h base o there in
        let base_is : e.base ≡ base = one_place c sound e f.0 has f.1 (same ∙ ap (word_index c.origin) (sym f.2)) ∙ f.2 in
        inr (subst (LedTo s w) base_is (first (reads_object c sound s h e has w reads).1)))
        (set_only flags (word_index c.origin base) (word_index c.origin e.base) set);
    adds = λ room s h lead base led. subst (IsFlagged c.origin (slice_set flags (word_index c.origin e.base) true)) (sym (led_alone s h led)) (get_or-set_same flags (word_index c.origin e.base) true false (has_flag c sound flags room e has));
  })

-- what a call brought has its flags
pub brought_nothing : (c : PlainContents) (slot : ℕ) (call : Call) (flags : List Bool) → (IsNoAlloc call → (s s' : Heap) (w : ℕ) → StandsFor c s' → IsBrought s slot call s' w → ⊥) → FlagsBrought c slot call flags flags
brought_nothing c slot call flags none = record {
  size = refl;
  keeps = λ base is. is;
  only = λ s s' h base o has is. inl is;
  adds = λ no room s s' h w x lead base led. absurd (none no s s' w h x);
}

pub brought_flagged : (c : PlainContents) (slot : ℕ) (call : Call) (r w : ℕ) (old new : List Bool) → ((s s' : Heap) (v : ℕ) → IsBrought s slot call s' v ↔ StandsIn s' slot r v)
    → ((s : Heap) → StandsFor c s → StandsIn s slot r w) → FlagsLed c w old new → FlagsBrought c slot call old new
brought_flagged c slot call r w old new is stands f = record {
  size = f.size;
  keeps = f.keeps;
  only = λ s s' h base o has set. ⊎_elim (λ before. inl before) (λ led. inr (w, (is s s' w).1 (stands s' h), led)) (f.only s' h base o has set);
  adds = λ no room s s' h v x lead base led.
      let same : v ≡ w = stands_one s' slot r v w ((is s s' v).0 x) (stands s' h) in
      f.adds room s' h (subst (λ k. (at : ℕ) (o : Object) → PointsIntoObject s' k at o → IsFlagged c.origin old at → (b : ℕ) → LedTo s' k b → IsFlagged c.origin old b) same lead) base (subst (λ k. LedTo s' k base) same led);
}
