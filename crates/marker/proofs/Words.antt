-- What words that are done with come to.
use Rattle.std.proofs.Common.{◌≡◌, ℕ, ◌+◌, ◌-◌, ◌*◌, ◌<◌, ◌≤◌, Bool, true, false, ◌||◌, List, [], ◌∷◌, ◌++◌, length, get_or, set, take, Contains, Option, Some, refl, sym, ap, ◌∙◌, subst, inl, inr, ⊎_elim, append_assoc, append-nil, arith, length-set, get_or-set_same}
use Rattle.std.specs.Prelude.{◌⊎◌, All}
use Rattle.std.proofs.lemmas.Option.{same_Some}
use Rattle.std.proofs.lemmas.Bool.{false≢true, true≢false}
use Rattle.std.specs.Prelude.{drop, slice_range}
use Rattle.std.proofs.lemmas.List.{ext_get_or, get_or-take, get_or-drop, length-drop, length-take-le}
use Rattle.std.proofs.lemmas.List.FromFn.{length-map-range_with_len, get_or-map-range_with_len}
use Rattle.std.proofs.lemmas.List.Elements.{All-contains, Contains-append_left, Contains-append_right, Contains-append_cases}
use Rattle.words.specs.declared.class.Kind.TheVariants.{Normal}
use Rattle.words.specs.declared.limits.TheConstants.{FIRST_ADDRESS, PAGE_BYTES, PAGE_GRANULES}
use Rattle.words.specs.Bits.{Has}
use Rattle.words.specs.Layout.{granule, page_of}
use Rattle.pages.specs.Memory.{word_index, word_at}
use Rattle.block_map.specs.declared.found.Found.{Found}
use Rattle.block_map.specs.Objects.{IsMap, IsPlaced}
use Rattle.marker.specs.declared.entry.Entry.{Entry}
use Rattle.marker.specs.Marking.{Marking, IsConsistent, IsMarked, IsOutside, StaysDirty, with_carried, with_current, word_address}
use Rattle.marker.specs.Work.{cost}
use Rattle.marker.specs.Closure.{Closure, held, root, word}
use Rattle.marker.specs.Invariant.{IsTargetMarked, AreRootsMarked}
use Rattle.marker.specs.Growth.{MarksFirst, MarksWord, MarksWords, TellsFirst, TellsStray, CarriesPage, IsStray, IsStrayPage, Traces, Awaits, words_from, nothing, object, begun, and_word, pointer_free, pushed, dirtied}
use Rattle.marker.proofs.Closures.{at_base, marks_of, same_object}
use Rattle.marker.proofs.Growing.{Extends, extends_refl, extends_trans, target_more, traced_more, carried_more}
use Rattle.marker.proofs.Spreads.{has_set, has_set_back}
use Rattle.marker.proofs.MarkWord.{object_extends, object_marked, object_only}

awaits_pages : (f : Found) (old new : Marking) → Awaits f old new → length new.dirty ≡ length old.dirty
awaits_pages f old new (pointer_free k s d) = ap length d
awaits_pages f old new (pushed k r s d) = ap length d
awaits_pages f old new (dirtied k r s d) = d.len

-- the number of pages stays
pub word_pages : (found : ℕ → Option Found) (w : ℕ) (old new : Marking) → MarksWord found w old new → length new.dirty ≡ length old.dirty
word_pages found w old new (nothing t e) = ap (λ (m : Marking). length m.dirty) e
word_pages found w old new (object f is x) = awaits_pages f old new x.awaits

pub words_pages : (found : ℕ → Option Found) (old : Marking) {ws : List ℕ} {new : Marking} → MarksWords found old ws new → length new.dirty ≡ length old.dirty
words_pages found old begun = refl
words_pages found old (and_word {m = m} x y) = word_pages found _ m _ y ∙ words_pages found old x

-- the carried pages stay, and what is done with words doesn't look at them
awaits_carried : (f : Found) (a b : Marking) (r : List Bool) → Awaits f a b → Awaits f (with_carried a r) (with_carried b r)
awaits_carried f a b r (pointer_free k s d) = pointer_free k s d
awaits_carried f a b r (pushed k l s d) = pushed k l s d
awaits_carried f a b r (dirtied k l s d) = dirtied k l s d

word_carried : (found : ℕ → Option Found) (w : ℕ) (a b : Marking) (r : List Bool) → MarksWord found w a b → MarksWord found w (with_carried a r) (with_carried b r)
word_carried found w a b r (nothing t e) = nothing t (ap (λ m. with_carried m r) e)
word_carried found w a b r (object f is x) = object f is (record { unmarked = x.unmarked; marks = x.marks; carried = refl; current = x.current; awaits = awaits_carried f a b r x.awaits })

pub words_carried : (found : ℕ → Option Found) (a : Marking) (r : List Bool) {ws : List ℕ} {b : Marking} → MarksWords found a ws b → MarksWords found (with_carried a r) ws (with_carried b r)
words_carried found a r begun = begun
words_carried found a r (and_word {w = w} {m = m} {new = b} x y) = and_word (words_carried found a r x) (word_carried found w m b r y)

-- and neither does it look at the entry that is being read
awaits_current : (f : Found) (a b : Marking) (e : Entry) → Awaits f a b → Awaits f (with_current a e) (with_current b e)
awaits_current f a b e (pointer_free k s d) = pointer_free k s d
awaits_current f a b e (pushed k l s d) = pushed k l s d
awaits_current f a b e (dirtied k l s d) = dirtied k l s d

word_current : (found : ℕ → Option Found) (w : ℕ) (a b : Marking) (e : Entry) → MarksWord found w a b → MarksWord found w (with_current a e) (with_current b e)
word_current found w a b e (nothing t same) = nothing t (ap (λ m. with_current m e) same)
word_current found w a b e (object f is x) = object f is (record { unmarked = x.unmarked; marks = x.marks; carried = x.carried; current = refl; awaits = awaits_current f a b e x.awaits })

pub words_current : (found : ℕ → Option Found) (a : Marking) (e : Entry) {ws : List ℕ} {b : Marking} → MarksWords found a ws b → MarksWords found (with_current a e) ws (with_current b e)
words_current found a e begun = begun
words_current found a e (and_word {w = w} {m = m} {new = b} x y) = and_word (words_current found a e x) (word_current found w m b e y)

-- whether one of more words is stray
or_true : (a b : Bool) → (a || b) ≡ true → (a ≡ true) ⊎ (b ≡ true)
or_true true b e = inl refl
or_true false b e = inr e

or_false : (a b : Bool) → (a || b) ≡ false → (a ≡ false) × (b ≡ false)
or_false true b e = absurd (true≢false e)
or_false false b e = (refl, e)

pub tells_append : (found : ℕ → Option Found) (bytes : ℕ) (ws vs : List ℕ) (a b : Bool) → TellsStray found bytes ws a → TellsStray found bytes vs b → TellsStray found bytes (ws ++ vs) (a || b)
tells_append found bytes ws vs a b x y = record {
  some = λ e. ⊎_elim
      (λ h. let s = x.some h in (s.0, Contains-append_left ws vs s.0 s.1, s.2))
      (λ h. let s = y.some h in (s.0, Contains-append_right ws vs s.0 s.1, s.2)) (or_true a b e);
  none = λ e w h. let both = or_false a b e in ⊎_elim (x.none both.0 w) (y.none both.1 w) (Contains-append_cases ws vs w h);
}

-- the same where it is known of the later words
pub tells_also : (found : ℕ → Option Found) (bytes : ℕ) (ws vs : List ℕ) (a : Bool) → TellsStray found bytes ws a → TellsStray found bytes vs true → TellsStray found bytes (ws ++ vs) true
tells_also found bytes ws vs true x y = tells_append found bytes ws vs true true x y
tells_also found bytes ws vs false x y = tells_append found bytes ws vs false true x y

pub tells_still : (found : ℕ → Option Found) (bytes : ℕ) (ws vs : List ℕ) (a : Bool) → TellsStray found bytes ws a → TellsStray found bytes vs false → TellsStray found bytes (ws ++ vs) a
tells_still found bytes ws vs true x y = tells_append found bytes ws vs true false x y
tells_still found bytes ws vs false x y = tells_append found bytes ws vs false false x y

pub tells_nothing : (found : ℕ → Option Found) (bytes : ℕ) → TellsStray found bytes [] false
tells_nothing found bytes = record { some = λ e. absurd (false≢true e); none = λ e w h. absurd (let l = h.1 in omega arith) }

pub tells_further : (found : ℕ → Option Found) (bytes : ℕ) {ws vs : List ℕ} {a b : Bool} → TellsFirst found bytes ws vs a → (done rest : List ℕ) → vs ≡ done ++ rest → TellsStray found bytes done b → TellsFirst found bytes ws rest (a || b)
tells_further found bytes {a = a} {b = b} x done rest e y = record {
  done = x.done ++ done;
  parts = x.parts ∙ ap (λ l. x.done ++ l) e ∙ sym (append_assoc x.done done rest);
  tells = tells_append found bytes x.done done a b x.tells y;
}

-- words that lie outside are not stray
pub first_outside : (pages bytes : ℕ) (found : ℕ → Option Found) → bytes ≡ PAGE_BYTES * pages → {ws vs : List ℕ} {a : Bool} → TellsFirst found (PAGE_BYTES * pages) ws vs a → (done rest : List ℕ) → vs ≡ done ++ rest → All (IsOutside bytes) done
    → TellsFirst found (PAGE_BYTES * pages) ws rest a
first_outside pages bytes found b {a = a} x done rest e all = record {
  done = x.done ++ done;
  parts = x.parts ∙ ap (λ l. x.done ++ l) e ∙ sym (append_assoc x.done done rest);
  tells = record {
    some = λ t. let s = x.tells.some t in (s.0, Contains-append_left x.done done s.0 s.1, s.2);
    none = λ t w h. ⊎_elim (x.tells.none t w) (λ k. inr (subst (λ (n : ℕ). IsOutside n w) b (All-contains (IsOutside bytes) done w all k))) (Contains-append_cases x.done done w h);
  };
}

pub tells_all : (found : ℕ → Option Found) (bytes : ℕ) {ws vs : List ℕ} {a b : Bool} → TellsFirst found bytes ws vs a → TellsStray found bytes vs b → TellsStray found bytes ws (a || b)
tells_all found bytes {vs = vs} {a = a} {b = b} x y = subst (λ (l : List ℕ). TellsStray found bytes l (a || b)) (sym x.parts) (tells_append found bytes x.done vs a b x.tells y)

-- the page was made carried where a word is stray, and else nothing was done
pub carries_some : (found : ℕ → Option Found) (bytes : ℕ) (ws : List ℕ) (page : ℕ) (old : List Bool) → page < length old → TellsStray found bytes ws true → CarriesPage found bytes ws page old (set old page true)
carries_some found bytes ws page old inside x = record {
  len = length-set old page true;
  stays = λ p h. has_set old page p inside h;
  only = λ p h. ⊎_elim (λ o. inl o) (λ s. inr (s, x.some refl)) (has_set_back old page p h);
  all = λ w h. inl (get_or-set_same old page true false inside);
}

pub carries_none : (found : ℕ → Option Found) (bytes : ℕ) (ws : List ℕ) (page : ℕ) (old : List Bool) → TellsStray found bytes ws false → CarriesPage found bytes ws page old old
carries_none found bytes ws page old x = record {
  len = refl;
  stays = λ p h. h;
  only = λ p h. inl h;
  all = λ w h. inr (x.none refl w h);
}

-- what words lead to leaves the carried pages
word_same : (found : ℕ → Option Found) (w : ℕ) (a b : Marking) → MarksWord found w a b → b.carried ≡ a.carried
word_same found w a b (nothing t e) = ap (λ (m : Marking). m.carried) e
word_same found w a b (object f is x) = x.carried

pub words_same : (found : ℕ → Option Found) (a : Marking) {ws : List ℕ} {b : Marking} → MarksWords found a ws b → b.carried ≡ a.carried
words_same found a begun = refl
words_same found a (and_word {w = w} {m = m} {new = b} x y) = word_same found w m b y ∙ words_same found a x

-- the words were marked, and then their page was carried or not
pub run_marked : (found : ℕ → Option Found) (old mid : Marking) (ws vs : List ℕ) → ws ≡ vs → MarksWords found old ws mid → MarksWords found old vs (with_carried mid old.carried)
run_marked found old mid ws vs e x = subst (λ l. MarksWords found old l (with_carried mid old.carried)) e (subst (λ r. MarksWords found old ws (with_carried mid r)) (words_same found old x) x)

pub run_carried : (found : ℕ → Option Found) (bytes : ℕ) (old mid : Marking) (ws vs : List ℕ) (page at : ℕ) (b : Bool) → ws ≡ vs → MarksWords found old ws mid → TellsStray found bytes ws b → b ≡ true → page ≡ at → page < length mid.carried
    → CarriesPage found bytes vs at old.carried (set mid.carried page true)
run_carried found bytes old mid ws vs page at b e x tells is on inside =
    let same = words_same found old x in
    subst (λ r. CarriesPage found bytes vs at r (set mid.carried page true)) same
    (subst (λ p. CarriesPage found bytes vs p mid.carried (set mid.carried page true)) on
    (carries_some found bytes vs page mid.carried inside (subst (λ l. TellsStray found bytes l true) e (subst (TellsStray found bytes ws) is tells))))

pub run_left : (found : ℕ → Option Found) (bytes : ℕ) (old mid : Marking) (ws vs : List ℕ) (page : ℕ) (b : Bool) → ws ≡ vs → MarksWords found old ws mid → TellsStray found bytes ws b → b ≡ false → CarriesPage found bytes vs page old.carried mid.carried
run_left found bytes old mid ws vs page b e x tells is =
    subst (λ r. CarriesPage found bytes vs page r mid.carried) (words_same found old x)
    (carries_none found bytes vs page mid.carried (subst (λ l. TellsStray found bytes l false) e (subst (TellsStray found bytes ws) is tells)))

-- words after words
pub words_append : (found : ℕ → Option Found) (a : Marking) (ws : List ℕ) (b : Marking) → MarksWords found a ws b → {vs : List ℕ} {c : Marking} → MarksWords found b vs c → MarksWords found a (ws ++ vs) c
words_append found a ws b x begun = subst (λ l. MarksWords found a l b) (sym (append-nil ws)) x
words_append found a ws b x (and_word {ws = vs} {w = v} {new = c} y z) =
    subst (λ l. MarksWords found a l c) (append_assoc ws vs (v ∷ [])) (and_word (words_append found a ws b x y) z)

pub four_words : (found : ℕ → Option Found) (w x y z : ℕ) {a b c d e : Marking} → MarksWord found w a b → MarksWord found x b c → MarksWord found y c d → MarksWord found z d e → MarksWords found a (w ∷ x ∷ y ∷ z ∷ []) e
four_words found w x y z f g h i =
    and_word {ws = w ∷ x ∷ y ∷ []} {w = z} (and_word {ws = w ∷ x ∷ []} {w = y} (and_word {ws = w ∷ []} {w = x} (and_word {ws = []} {w = w} begun f) g) h) i

-- words that are left are done with too
pub first_further : (found : ℕ → Option Found) (a : Marking) {ws vs : List ℕ} {b c : Marking} → MarksFirst found a ws vs b → (done rest : List ℕ) → vs ≡ done ++ rest → MarksWords found b done c → MarksFirst found a ws rest c
first_further found a {b = b} x done rest e y = record {
  done = x.done ++ done;
  parts = x.parts ∙ ap (λ l. x.done ++ l) e ∙ sym (append_assoc x.done done rest);
  marks = words_append found a x.done b x.marks y;
}

pub first_and_left : (found : ℕ → Option Found) (a : Marking) {ws vs : List ℕ} {b c : Marking} → MarksFirst found a ws vs b → MarksWords found b vs c → MarksWords found a ws c
first_and_left found a {b = b} {c = c} x y = subst (λ (l : List ℕ). MarksWords found a l c) (sym x.parts) (words_append found a x.done b x.marks y)

-- four words fewer are left
pub fewer_left : (w x y z : ℕ) {ws vs : List ℕ} → ws ≡ w ∷ x ∷ y ∷ z ∷ vs → length vs < length ws
fewer_left w x y z {ws = ws} {vs = vs} e = let l : length ws ≡ length (w ∷ x ∷ y ∷ z ∷ vs) = ap length e in omega (arith, l)

-- the words of an object from one of them on, as they lie in a row
pub run_words : (words : List ℕ) (f : Found) (first n start : ℕ) → start ≡ word_address f first → FIRST_ADDRESS ≤ start → word_index start + n ≤ length words → slice_range words (word_index start) (word_index start + n) ≡ words_from words f first n
run_words words f first n start is above inside =
    let at = word_index start in
    let row = words_from words f first n in
    let rest : length (drop at words) ≡ length words - at = length-drop at words in
    let size : length (slice_range words at (at + n)) ≡ n = (let cut : at + n - at ≡ n = omega arith in ap (λ k. length (take k (drop at words))) cut ∙ length-take-le n (drop at words) (omega (arith, rest, inside))) in
    ext_get_or 0 (slice_range words at (at + n)) row (size ∙ sym (length-map-range_with_len (λ i. word_at words (word_address f i)) first n))
    (λ i lt.
    let below : i < n = omega (arith, lt, size) in
    let there : word_index (word_address f (first + i)) ≡ at + i = omega (arith, is, above) in
    get_or-take (at + n - at) (drop at words) i 0 (omega (arith, below))
    ∙ get_or-drop at words i 0
    ∙ ap (λ k. get_or words k 0) (sym there)
    ∙ sym (get_or-map-range_with_len (λ k. word_at words (word_address f k)) first n i (first + i) 0 below refl))

-- which words are some of an object's
pub contains_word : (words : List ℕ) (f : Found) (first n i : ℕ) → first ≤ i → i < first + n → Contains (words_from words f first n) (word_at words (word_address f i))
contains_word words f first n i le lt =
    let k : i - first < n = omega arith in
    let l : length (words_from words f first n) ≡ n = length-map-range_with_len (λ j. word_at words (word_address f j)) first n in
    (i - first, omega (arith, l), get_or-map-range_with_len (λ j. word_at words (word_address f j)) first n (i - first) i _ k (omega arith))

pub word_of : (words : List ℕ) (f : Found) (first n w : ℕ) → Contains (words_from words f first n) w → (i : ℕ) × (first ≤ i) × (i < first + n) × (w ≡ word_at words (word_address f i))
word_of words f first n w h =
    let l : length (words_from words f first n) ≡ n = length-map-range_with_len (λ j. word_at words (word_address f j)) first n in
    let lt = h.1 in
    let k : h.0 < n = omega (arith, l, lt) in
    (first + h.0, omega arith, omega arith, sym h.2 ∙ get_or-map-range_with_len (λ j. word_at words (word_address f j)) first n h.0 (first + h.0) _ k refl)

-- The granule is the first one of an object that one of the words points into.
pub record IsTargetGranule (found : ℕ → Option Found) (ws : List ℕ) (k : ℕ) : Type 0 where
  pub target : ℕ
  pub one : Contains ws target
  pub object : Found
  pub points : found target ≡ Some object
  pub first : granule object.base ≡ k

module _ (pages : ℕ) (found : ℕ → Option Found) (map : IsMap pages found) where
  word_extends : (w : ℕ) (old new : Marking) → length old.marks ≡ PAGE_GRANULES * pages → MarksWord found w old new → Extends found old new
  word_extends w old new size (nothing t e) = subst (Extends found old) (sym e) (extends_refl found old)
  word_extends w old new size (object f is x) = object_extends pages found map f (at_base pages found map w f is) old new size x

  word_target : (w : ℕ) (old new : Marking) → length old.marks ≡ PAGE_GRANULES * pages → MarksWord found w old new → IsTargetMarked found new w
  word_target w old new size (nothing t e) = subst (λ m. IsTargetMarked found m w) (sym e) t
  word_target w old new size (object f is x) = λ g e.
      subst (λ (y : Found). IsMarked new y.base) (same_Some f g (sym is ∙ e)) (object_marked pages found map f (at_base pages found map w f is) old new size x)

  word_only : (w : ℕ) (old new : Marking) → length old.marks ≡ PAGE_GRANULES * pages → MarksWord found w old new → (k : ℕ) → Has new.marks k → Has old.marks k ⊎ IsTargetGranule found (w ∷ []) k
  word_only w old new size (nothing t e) k h = inl (subst (λ (m : Marking). Has m.marks k) e h)
  word_only w old new size (object f is x) k h =
      ⊎_elim (λ o. inl o) (λ s. inr (record { target = w; one = (0, (let l : 0 < 1 = omega arith in l), refl); object = f; points = is; first = s }))
      (object_only pages found map f (at_base pages found map w f is) old new size x k h)

  module _ (old : Marking) (size : length old.marks ≡ PAGE_GRANULES * pages) where
    pub words_extends : {ws : List ℕ} {new : Marking} → MarksWords found old ws new → Extends found old new
    words_extends begun = extends_refl found old
    words_extends (and_word {w = w} {m = m} {new = new} x y) =
        let e = words_extends x in extends_trans found old m new e (word_extends w m new (e.marks_len ∙ size) y)

    pub words_targets : {ws : List ℕ} {new : Marking} → MarksWords found old ws new → AreRootsMarked found ws new
    words_targets begun w c = let l = c.1 in absurd (omega arith)
    words_targets (and_word {ws = ws} {w = v} {m = m} {new = new} x y) w c =
        let s = (words_extends x).marks_len ∙ size in
        ⊎_elim (λ h. target_more found m new (word_extends v m new s y) w (words_targets x w h))
        (λ (h : Contains (v ∷ []) w).
        let l = h.1 in let z : h.0 ≡ 0 = omega arith in
        subst (IsTargetMarked found new) (sym (ap (λ j. get_or (v ∷ []) j w) z) ∙ h.2) (word_target v m new s y))
        (Contains-append_cases ws (v ∷ []) w c)

    pub words_only : {ws : List ℕ} {new : Marking} → MarksWords found old ws new → (k : ℕ) → Has new.marks k → Has old.marks k ⊎ IsTargetGranule found ws k
    words_only begun k h = inl h
    words_only (and_word {ws = ws} {w = v} {m = m} {new = new} x y) k h =
        ⊎_elim
        (λ o. ⊎_elim (λ a. inl a)
        (λ (t : IsTargetGranule found ws k). inr (record { target = t.target; one = Contains-append_left ws (v ∷ []) t.target t.one; object = t.object; points = t.points; first = t.first }))
        (words_only x k o))
        (λ (t : IsTargetGranule found (v ∷ []) k). inr (record { target = t.target; one = Contains-append_right ws (v ∷ []) t.target t.one; object = t.object; points = t.points; first = t.first }))
        (word_only v m new ((words_extends x).marks_len ∙ size) y k h)

    -- a marked object was marked before, or one of the words points into it
    pub words_cases : {ws : List ℕ} {new : Marking} → MarksWords found old ws new → (f : Found) → found f.base ≡ Some f → IsMarked new f.base → IsMarked old f.base ⊎ ((w : ℕ) × Contains ws w × (found w ≡ Some f))
    words_cases {ws = ws} x f e h =
        ⊎_elim (λ o. inl o)
        (λ (t : IsTargetGranule found ws (granule f.base)).
        let s = same_object pages found map t.object f (at_base pages found map t.target t.object t.points) e t.first in
        inr (t.target, t.one, t.points ∙ ap Some s))
        (words_only x (granule f.base) h)

    -- the words of roots are done with
    pub roots_traces : (words : List ℕ) {roots : List ℕ} {new : Marking} → MarksWords found old roots new → Traces found words roots old new
    roots_traces words {roots = roots} {new = new} x =
        let e = words_extends x in
        record {
          marks_len = e.marks_len;
          dirty_len = e.dirty_len;
          marks = e.marks;
          objects = e.objects;
          within = λ f is h. ⊎_elim (λ o. held is o) (λ (t : (w : ℕ) × Contains roots w × (found w ≡ Some f)). root t.1 t.2) (words_cases x f is h);
          dirtied = e.dirtied;
          keeps = traced_more found words old new e;
          carried_len = ap length e.carried;
          carried = λ p h. subst (λ r. Has r p) (sym e.carried) h;
          strays = λ p h. inl (subst (λ r. Has r p) e.carried h);
          carries = carried_more found words old new e;
        }

    -- words of a marked Normal object point into objects of the closure
    pub words_within : (words : List ℕ) (f : Found) (first n : ℕ) {new : Marking} → found f.base ≡ Some f → f.kind ≡ Normal → IsMarked old f.base → first + n ≤ f.len
        → MarksWords found old (words_from words f first n) new → (g : Found) → found g.base ≡ Some g → IsMarked new g.base → Closure found words [] (IsMarked old) g
    words_within words f first n e normal marked fits x g is h =
        ⊎_elim (λ o. held is o)
        (λ (t : (w : ℕ) × Contains (words_from words f first n) w × (found w ≡ Some g)).
        let y = word_of words f first n t.0 t.1 in let b = y.2 in
        word y.0 (held e marked) normal (omega arith) (ap found (sym y.3) ∙ t.2))
        (words_cases x g is h)

-- What the roots' words come to, once all are done with.
pub record Scans (found : ℕ → Option Found) (roots : List ℕ) (old new : Marking) : Type 0 where
  pub traces : (words : List ℕ) → Traces found words roots old new
  pub targets : AreRootsMarked found roots new
  pub dirty : StaysDirty old new
  pub cost : cost found new ≤ cost found old

pub scanned : {pages : ℕ} {found : ℕ → Option Found} {old new : Marking} {roots : List ℕ} → IsMap pages found → IsConsistent old → length old.dirty ≡ pages → MarksWords found old roots new → Scans found roots old new
scanned {pages = pages} {found = found} {old = old} {new = new} map consistent size x =
    let marks = marks_of pages old consistent size in
    let e = words_extends pages found map old marks x in
    record {
      traces = λ words. roots_traces pages found map old marks words x;
      targets = words_targets pages found map old marks x;
      dirty = e.dirty;
      cost = e.cost;
    }

-- words of a marked Normal object were read on one page, and where one of them is stray it is carried
pub run_strays : (found : ℕ → Option Found) (words : List ℕ) (f : Found) (first n page : ℕ) (old : Marking) (carried : List Bool) → ((i : ℕ) → first ≤ i → i < first + n → page_of (word_address f i) ≡ page)
    → CarriesPage found (PAGE_BYTES * length old.dirty) (words_from words f first n) page old.carried carried → found f.base ≡ Some f → f.kind ≡ Normal → IsMarked old f.base → first + n ≤ f.len
    → (p : ℕ) → Has carried p → Has old.carried p ⊎ IsStrayPage found words [] old p
run_strays found words f first n page old carried one_page carries is normal marked fits p h =
    ⊎_elim (λ o. inl o)
    (λ (s : (p ≡ page) × ((w : ℕ) × Contains (words_from words f first n) w × IsStray found (PAGE_BYTES * length old.dirty) w)).
    let y = word_of words f first n s.1.0 s.1.1 in let lt = y.2 in
    inr (record {
      object = f;
      is = is;
      normal = normal;
      reached = held is marked;
      index = y.0;
      inside = omega arith;
      on = one_page y.0 y.1 y.2 ∙ sym s.0;
      stray = subst (IsStray found (PAGE_BYTES * length old.dirty)) y.3 s.1.2;
    }))
    (carries.only p h)

-- where a word of a run is stray, there is one, and its page is one of the heap
pub run_page : (pages : ℕ) (words : List ℕ) (f : Found) (first n : ℕ) (found : ℕ → Option Found) (bytes : ℕ) (ws : List ℕ) (b : Bool) → IsPlaced pages f → first + n ≤ f.len → ws ≡ words_from words f first n → TellsStray found bytes ws b → b ≡ true
    → page_of (word_address f first) < pages
run_page pages words f first n found bytes ws b placed fits e tells is =
    let s = tells.some is in
    let y = word_of words f first n s.0 (subst (λ l. Contains l s.0) e s.1) in
    let from = y.1 in let below = y.2 in let p = placed.below in let q = placed.above in omega arith
