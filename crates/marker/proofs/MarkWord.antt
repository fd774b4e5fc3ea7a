-- The marking of one object.
use Rattle.std.proofs.Common.{◌≡◌, ℕ, ◌+◌, ◌-◌, ◌*◌, ◌%◌, ◌^◌, ◌<◌, ◌≤◌, List, [], ◌∷◌, ◌++◌, length, Bool, true, false, get_or, set, sum_by, Contains, Option, Some, None, refl, sym, ap, ◌∙◌, subst, inl, inr, ⊎_elim, arith, length-append, length-set, get_or-set_same}
use Rattle.std.specs.Prelude.{◌⊎◌, option_to_list}
use Rattle.std.proofs.lemmas.Option.{same_Some}
use Rattle.std.proofs.lemmas.Bool.{cases_lt, false≢true}
use Rattle.std.proofs.lemmas.List.Sums.{sum_by-append}
use Rattle.std.proofs.lemmas.List.Elements.{Contains-append_left, Contains-append_right, Contains-push_cases}
use Rattle.std.proofs.lemmas.List.{length_push}
use Rattle.words.specs.declared.class.Kind.TheVariants.{Normal, PointerFree}
use Rattle.words.specs.declared.limits.TheConstants.{FIRST_ADDRESS, MARK_STACK_ENTRIES, PAGE_BYTES, PAGE_GRANULES, PAGE_WORDS}
use Rattle.words.specs.Bits.{Has}
use Rattle.words.specs.Layout.{granule, page_of}
use Rattle.block_map.specs.declared.found.Found.{Found}
use Rattle.block_map.specs.Objects.{IsMap}
use Rattle.block_map.specs.States.{PageState}
use Rattle.block_map.specs.FoundIn.{found_in, IsLawful}
use Rattle.marker.specs.declared.entry.Entry.{Entry}
use Rattle.marker.specs.Marking.{Marking, IsConsistent, IsMarked, IsOutside, word_address, last_page, pages_of, Covers}
use Rattle.marker.specs.Work.{left, left_of, page_words, unmarked, unmarked_from, span, cost}
use Rattle.marker.specs.Invariant.{IsAwaited}
use Rattle.marker.specs.Growth.{IsNoStray, TellsStray, MarksWord, MarksObject, Awaits, IsDirtied, entry_of, nothing, object, pointer_free, pushed, dirtied}
use Rattle.marker.specs.Entries.{IsBelow}
use Rattle.marker.proofs.Closures.{same_object}
use Rattle.marker.proofs.Growing.{Extends, below_refl}
use Rattle.marker.proofs.Costs.{unmarked_set, span_at, words_covered, left_new}
use Rattle.marker.proofs.Spreads.{has_set, has_set_back, dirtied_words}

unfound : (o : Option Found) → ((f : Found) → o ≡ Some f → ⊥) → o ≡ None
unfound None n = refl
unfound (Some f) n = absurd (n f refl)

pub not_true : (b : Bool) → (b ≡ true → ⊥) → b ≡ false
not_true true n = absurd (n refl)
not_true false n = refl

pub markable : (pages : ℕ) (found : ℕ → Option Found) (w : ℕ) (g : Found) (row : List Bool) → IsMap pages found → found w ≡ Some g → length row ≡ PAGE_GRANULES * pages
    → (FIRST_ADDRESS ≤ g.base) × (granule g.base < length row)
markable pages found w g row map is l = let p = map.placed w g is in let a = p.above in let b = p.below in let s = p.some in (a, omega arith)

-- no object lies outside the heap
outside : (pages : ℕ) (found : ℕ → Option Found) (w : ℕ) → IsMap pages found → (w < FIRST_ADDRESS) ⊎ (FIRST_ADDRESS + PAGE_BYTES * pages ≤ w) → found w ≡ None
outside pages found w map out = unfound (found w) (λ f e.
    let r = map.reads w f e in let p = map.placed w f e in
    let a = r.from in let b = r.below in let c = p.above in let d = p.below in
    ⊎_elim (λ (low : w < FIRST_ADDRESS). omega arith) (λ high. omega arith) out)

-- one word, and whether it is stray
one_in : (w v : ℕ) → Contains (w ∷ []) v → v ≡ w
one_in w v h = let l = h.1 in let z : h.0 ≡ 0 = omega arith in sym h.2 ∙ ap (λ j. get_or (w ∷ []) j v) z

pub tells_none : (found : ℕ → Option Found) (bytes w : ℕ) → IsNoStray found bytes w → TellsStray found bytes (w ∷ []) false
tells_none found bytes w is = record {
  some = λ e. absurd (false≢true e);
  none = λ e v h. subst (IsNoStray found bytes) (sym (one_in w v h)) is;
}

pub tells_far : (pages bytes w : ℕ) (found : ℕ → Option Found) → bytes ≡ PAGE_BYTES * pages → w < 2 ^ 64 → bytes ≤ (w + (2 ^ 64 - FIRST_ADDRESS)) % 2 ^ 64 → TellsStray found (PAGE_BYTES * pages) (w ∷ []) false
tells_far pages bytes w found b fits far = tells_none found (PAGE_BYTES * pages) w (inr (⊎_elim (λ low. inl low) (λ (high : FIRST_ADDRESS ≤ w). inr (omega (arith, b, fits, far, high))) (cases_lt w FIRST_ADDRESS)))

-- no object is pointed into
pub word_none : (found : ℕ → Option Found) (w : ℕ) (m : Marking) → found w ≡ None → MarksWord found w m m
word_none found w m n = nothing (λ g e. let x : None ≡ Some g = sym n ∙ e in absurd (cc x)) refl

-- the word is an address below the heap or past its end: its distance from the first one, modulo 2^64, tells both
pub word_outside : (states : List PageState) (bytes w : ℕ) (m : Marking) → IsLawful states → bytes ≡ PAGE_BYTES * length states → w < 2 ^ 64 → bytes ≤ (w + (2 ^ 64 - FIRST_ADDRESS)) % 2 ^ 64
    → MarksWord (found_in states) w m m
word_outside states bytes w m lawful b fits far = word_none (found_in states) w m (outside (length states) (found_in states) w lawful.map
    (⊎_elim (λ low. inl low) (λ (high : FIRST_ADDRESS ≤ w). inr (omega (arith, b, fits, far, high))) (cases_lt w FIRST_ADDRESS)))

pub word_beyond : (states : List PageState) (bytes w : ℕ) (m : Marking) → IsLawful states → bytes ≡ PAGE_BYTES * length states → IsOutside bytes w → MarksWord (found_in states) w m m
word_beyond states bytes w m lawful b out = word_none (found_in states) w m (outside (length states) (found_in states) w lawful.map (subst (λ (n : ℕ). IsOutside n w) b out))

-- A marked object is pointed into: nothing is done, and the word isn't stray.
pub word_marked : (found : ℕ → Option Found) (m : Marking) (w : ℕ) → (f : Found) × (found w ≡ Some f) × IsMarked m f.base → MarksWord found w m m
word_marked found m w (f, is, marked) = nothing (λ g e. subst (λ (h : Found). IsMarked m h.base) (same_Some f g (sym is ∙ e)) marked) refl

pub tells_marked : (found : ℕ → Option Found) (bytes : ℕ) (m : Marking) (w : ℕ) → (f : Found) × (found w ≡ Some f) × IsMarked m f.base → TellsStray found bytes (w ∷ []) false
tells_marked found bytes m w (f, is, marked) = tells_none found bytes w (inl (f, is))

-- what is done for an object's words doesn't look at marks
awaits_same : (f : Found) (a b new : Marking) → b.stack ≡ a.stack → b.dirty ≡ a.dirty → Awaits f b new → Awaits f a new
awaits_same f a b new s d (pointer_free k x y) = pointer_free k (x ∙ s) (y ∙ d)
awaits_same f a b new s d (pushed k r x y) = pushed k (subst (λ l. length l < MARK_STACK_ENTRIES) s r) (x ∙ ap (λ l. l ++ entry_of f ∷ []) s) (y ∙ d)
awaits_same f a b new s d (dirtied k r x y) = dirtied k (ap length (sym s) ∙ r) (x ∙ s) (subst (λ l. IsDirtied l new.dirty (page_of f.base) (last_page f + 1)) d y)

-- An unmarked object is pointed into, whose granule is n: it is marked, and then its words await reading.
pub word_object : (found : ℕ → Option Found) (w : ℕ) (g : Found) (n : ℕ) (old from mid new : Marking) → from ≡ old → found w ≡ Some g → n ≡ granule g.base → get_or from.marks n false ≡ false
    → mid.marks ≡ set from.marks n true → mid.current ≡ from.current → mid.stack ≡ from.stack → mid.dirty ≡ from.dirty → mid.carried ≡ from.carried → new.marks ≡ mid.marks → new.carried ≡ mid.carried → new.current ≡ mid.current → Awaits g mid new → MarksWord found w old new
word_object found w g n old from mid new view is e clear marks current stack dirty carried same as_it_was still awaits =
    subst (λ o. MarksWord found w o new) view
    (object g is (record {
      unmarked = λ h. false≢true (sym clear ∙ ap (λ j. get_or from.marks j false) e ∙ h);
      marks = same ∙ marks ∙ ap (λ j. set from.marks j true) e;
      carried = as_it_was ∙ carried;
      current = still ∙ current;
      awaits = awaits_same g from mid new stack dirty awaits;
    }))

-- an entry is pushed that is unread
pub consistent_push : (m : Marking) (e : Entry) (new : Marking) → IsConsistent m → e.next ≡ 0 → length m.stack < MARK_STACK_ENTRIES → length new.marks ≡ length m.marks → new.dirty ≡ m.dirty → new.carried ≡ m.carried → new.stack ≡ m.stack ++ e ∷ [] → IsConsistent new
consistent_push m e new c z room k d a s = record {
  carried = ap length a ∙ c.carried ∙ ap length (sym d);
  marks = k ∙ c.marks ∙ ap (λ r. PAGE_GRANULES * length r) (sym d);
  few = (let l : length new.dirty ≡ length m.dirty = ap length d in let f = c.few in omega arith);
  room = (let l : length new.stack ≡ length m.stack + 1 = ap length s ∙ length_push m.stack e in omega arith);
  unread = λ x h. ⊎_elim (λ o. c.unread x o) (λ (p : e ≡ x). ap (λ (y : Entry). y.next) (sym p) ∙ z) (Contains-push_cases m.stack e x (subst (λ l. Contains l x) s h));
}

-- the entry on top is taken
pub consistent_pop : (m : Marking) (o : Option Entry) (new : Marking) → IsConsistent m → new.marks ≡ m.marks → new.dirty ≡ m.dirty → new.carried ≡ m.carried → m.stack ≡ new.stack ++ option_to_list o → IsConsistent new
consistent_pop m o new c k d a s = record {
  carried = ap length a ∙ c.carried ∙ ap length (sym d);
  marks = ap length k ∙ c.marks ∙ ap (λ r. PAGE_GRANULES * length r) (sym d);
  few = (let l : length new.dirty ≡ length m.dirty = ap length d in let f = c.few in omega arith);
  room = (let l : length m.stack ≡ length new.stack + length (option_to_list o) = ap length s ∙ length-append new.stack (option_to_list o) in let r = c.room in omega arith);
  unread = λ x h. c.unread x (subst (λ l. Contains l x) (sym s) (Contains-append_left new.stack (option_to_list o) x h));
}

-- what grows when an object becomes marked
module _ (pages : ℕ) (found : ℕ → Option Found) (map : IsMap pages found) (g : Found) (is : found g.base ≡ Some g) (old new : Marking) (size : length old.marks ≡ PAGE_GRANULES * pages) (x : MarksObject g old new) where
  inside : granule g.base < length old.marks
  inside = (markable pages found g.base g old.marks map is size).1

  grows : (b : ℕ) → IsMarked old b → IsMarked new b
  grows b h = subst (λ r. Has r (granule b)) (sym x.marks) (has_set old.marks (granule g.base) (granule b) inside h)

  pub object_marked : IsMarked new g.base
  object_marked = subst (λ r. Has r (granule g.base)) (sym x.marks) (get_or-set_same old.marks (granule g.base) true false inside)

  pub object_only : (k : ℕ) → Has new.marks k → Has old.marks k ⊎ (granule g.base ≡ k)
  object_only k h = ⊎_elim (λ o. inl o) (λ (s : k ≡ granule g.base). inr (sym s)) (has_set_back old.marks (granule g.base) k (subst (λ r. Has r k) x.marks h))

  unmarked_less : unmarked found new + pages_of g ≡ unmarked found old
  unmarked_less =
      ap (λ r. unmarked_from found 0 r + pages_of g) x.marks
      ∙ ap (λ n. unmarked_from found 0 (set old.marks (granule g.base) true) + n) (sym (ap (span found) (let z : 0 + granule g.base ≡ granule g.base = omega arith in z) ∙ span_at pages found g (map.placed _ g is) is))
      ∙ unmarked_set found old.marks 0 (granule g.base) inside (not_true (get_or old.marks (granule g.base) false) x.unmarked)

  extends_by : length new.dirty ≡ length old.dirty → IsBelow old.stack new.stack
      → ((p : ℕ) → Has old.dirty p → Has new.dirty p)
      → ((p : ℕ) → Has new.dirty p → Has old.dirty p ⊎ Covers g p)
      → (g.kind ≡ Normal → (i : ℕ) → i < g.len → IsAwaited new g i)
      → sum_by page_words new.dirty + sum_by (left found) new.stack ≤ sum_by page_words old.dirty + sum_by (left found) old.stack + PAGE_WORDS * pages_of g
      → Extends found old new
  unfolding cost
  extends_by dirty_len stack dirty others awaited less = record {
    marks_len = ap length x.marks ∙ length-set old.marks (granule g.base) true;
    dirty_len = dirty_len;
    marks = grows;
    objects = λ k h. ⊎_elim (λ o. inl o) (λ (s : granule g.base ≡ k). inr (record { object = g; is = is; first = s })) (object_only k h);
    dirty = dirty;
    carried = x.carried;
    current = x.current;
    stack = stack;
    fresh = λ f e k. ⊎_elim (λ o. inl o)
        (λ (s : granule g.base ≡ granule f.base). inr (subst (λ (y : Found). y.kind ≡ Normal → (i : ℕ) → i < y.len → IsAwaited new y i) (same_object pages found map g f is e s) awaited)) (object_only (granule f.base) k);
    dirtied = λ p h. ⊎_elim (λ o. inl o) (λ c. inr (g, (is, x.unmarked, object_marked), c)) (others p h);
    cost = (let u = unmarked_less in let c : left_of found new.current ≡ left_of found old.current = ap (left_of found) x.current in omega arith);
  }

  -- the words of an entry for all of the object
  entry_words : g.kind ≡ Normal → left found (entry_of g) ≡ g.len - 0
  entry_words normal = left_new found g (entry_of g) is normal refl

  by_awaits : Awaits g old new → Extends found old new
  by_awaits (pointer_free k s d) =
      extends_by (ap length d) (subst (IsBelow old.stack) (sym s) (below_refl old.stack)) (λ p h. subst (λ y. Has y p) (sym d) h) (λ p h. inl (subst (λ y. Has y p) d h))
      (λ n. let y : PointerFree ≡ Normal = sym k ∙ n in absurd (cc y))
      (let a : sum_by page_words new.dirty ≡ sum_by page_words old.dirty = ap (sum_by page_words) d in let b : sum_by (left found) new.stack ≡ sum_by (left found) old.stack = ap (sum_by (left found)) s in omega arith)
  by_awaits (pushed k room s d) =
      extends_by (ap length d) (entry_of g ∷ [], s) (λ p h. subst (λ y. Has y p) (sym d) h) (λ p h. inl (subst (λ y. Has y p) d h))
      (λ n i lt. inr (record {
        entry = entry_of g;
        one = inr (subst (λ y. Contains y (entry_of g)) (sym s) (Contains-append_right old.stack (entry_of g ∷ []) (entry_of g) (0, (let l : 0 < 1 = omega arith in l), refl)));
        same = refl;
        left = omega arith;
      }))
      (let a : sum_by page_words new.dirty ≡ sum_by page_words old.dirty = ap (sum_by page_words) d in
      let l : sum_by (left found) new.stack ≡ sum_by (left found) old.stack + (0 + left found (entry_of g)) = ap (sum_by (left found)) s ∙ sum_by-append (left found) old.stack (entry_of g ∷ []) in
      let m = entry_words k in let c = words_covered pages g (map.placed _ g is) in omega arith)
  by_awaits (dirtied k full s d) =
      extends_by d.len (subst (IsBelow old.stack) (sym s) (below_refl old.stack)) d.more
      (λ p h. ⊎_elim (λ o. inl o) (λ (r : (page_of g.base ≤ p) × (p < last_page g + 1)). let r0 = r.0 in let r1 = r.1 in inr (r0, omega arith)) (d.others p h))
      (λ n i lt. inl (d.inside (page_of (word_address g i)) (let a = (map.placed _ g is).above in omega arith) (let a = (map.placed _ g is).above in omega arith)))
      (let c = dirtied_words old.dirty new.dirty (page_of g.base) (last_page g + 1) d.len d.others in let b : sum_by (left found) new.stack ≡ sum_by (left found) old.stack = ap (sum_by (left found)) s in omega arith)

  pub object_extends : Extends found old new
  object_extends = by_awaits x.awaits

pub ruleset marking = (markable)
