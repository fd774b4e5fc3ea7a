-- Marking while others write.
use Rattle.std.proofs.Common.{◌≡◌, ℕ, ◌+◌, ◌*◌, ◌<◌, ◌≤◌, Bool, true, false, List, [], ◌∷◌, length, map, get_or, Contains, Option, Some, refl, sym, ap, ◌∙◌, subst, inl, inr, ⊎_elim, arith}
use Rattle.std.specs.List.{range_with_len}
use Rattle.std.proofs.lemmas.Bool.{cases_Bool, cases_eq, false≢true}
use Rattle.std.proofs.lemmas.List.{ext_get_or}
use Rattle.std.proofs.lemmas.List.FromFn.{length-map-range_with_len, get_or-map-range_with_len}
use Rattle.words.specs.declared.class.Kind.TheVariants.{Normal}
use Rattle.words.specs.declared.limits.TheConstants.{PAGE_BYTES, WORD_BYTES}
use Rattle.words.specs.Bits.{Has}
use Rattle.words.specs.Layout.{page_of}
use Rattle.pages.specs.Memory.{word_index, word_at}
use Rattle.pages.specs.Reads.{AreMoments, IsWoven}
use Rattle.block_map.specs.declared.found.Found.{Found}
use Rattle.marker.specs.Marking.{Marking, IsMarked, StaysDirty, bytes_of, with_carried, word_address}
use Rattle.marker.specs.Closure.{Closure}
use Rattle.marker.specs.Invariant.{DirtyPageInvariant, CarriedPageInvariant, IsSettled, IsTargetMarked}
use Rattle.marker.specs.Growth.{Traces, MarksWords, CarriesPage, IsStray, IsStrayPage, words_from}
use Rattle.marker.specs.Beside.{AgreeOff, AreBeside, IsStill, ClosureIn, IsStrayPageIn, MarksRow, TracesIn}
use Rattle.marker.proofs.Growing.{dirtied_more}

-- The invariants say nothing of words on dirty pages.
module _ (found : ℕ → Option Found) (m : Marking) (a b : List ℕ) (same : AgreeOff found m.dirty a b) where
  pub invariant_moves : DirtyPageInvariant found a m → DirtyPageInvariant found b m
  invariant_moves t f is n k i lt =
      ⊎_elim
      (λ (d : get_or m.dirty (page_of (word_address f i)) false ≡ true). inr (inl d))
      (λ (is_clean : get_or m.dirty (page_of (word_address f i)) false ≡ false).
      let e = same f is n i lt (λ d. false≢true (sym is_clean ∙ d)) in
      ⊎_elim (λ g. inl (subst (IsTargetMarked found m) e g)) (λ w. inr w) (t f is n k i lt))
      (cases_Bool (get_or m.dirty (page_of (word_address f i)) false))

  pub carried_moves : CarriedPageInvariant found a m → CarriedPageInvariant found b m
  carried_moves t f is n k i lt =
      ⊎_elim
      (λ (d : get_or m.dirty (page_of (word_address f i)) false ≡ true). inr (inl d))
      (λ (is_clean : get_or m.dirty (page_of (word_address f i)) false ≡ false).
      let e = same f is n i lt (λ d. false≢true (sym is_clean ∙ d)) in
      ⊎_elim (λ g. inl (subst (IsSettled found m (word_address f i)) e g)) (λ w. inr w) (t f is n k i lt))
      (cases_Bool (get_or m.dirty (page_of (word_address f i)) false))

-- more dirty pages may be written
pub beside_more : (found : ℕ → Option Found) (a b : Marking) (moments : List (List ℕ)) → StaysDirty a b → AreBeside found a.dirty moments → AreBeside found b.dirty moments
beside_more found a b moments stays s = record { same = λ x y hx hy f e n i lt clean. s.same x y hx hy f e n i lt (λ h. clean (stays _ h)) }

-- a word that isn't on a dirty page is read as it is at each moment
pub woven_same : (found : ℕ → Option Found) (dirty : List Bool) (moments : List (List ℕ)) (seen m : List ℕ) → AreBeside found dirty moments → IsWoven moments seen → Contains moments m → AgreeOff found dirty seen m
woven_same found dirty moments seen m s w h f is n i lt clean =
    let e = w.each (word_index (word_address f i)) in e.2 ∙ s.same e.0 m e.1 h f is n i lt clean

agree_back : (found : ℕ → Option Found) (dirty : List Bool) (a b : List ℕ) → AgreeOff found dirty a b → AgreeOff found dirty b a
agree_back found dirty a b x f is n i lt clean = sym (x f is n i lt clean)

none_in : (w : ℕ) → Contains [] w → ⊥
none_in w h = let l = h.1 in omega arith

-- what the words that were read lead to, words of the moments lead to
pub closure_in : (found : ℕ → Option Found) (moments : List (List ℕ)) (seen : List ℕ) (given : ℕ → Type 0) → IsWoven moments seen → {f : Found} → Closure found seen [] given f → ClosureIn found moments given f
closure_in found moments seen given w (Closure.held e k) = ClosureIn.given e k
closure_in found moments seen given w (Closure.root {w = v} c e) = absurd (none_in v c)
closure_in found moments seen given w (Closure.word {p = p} i c n lt e) =
    let y = w.each (word_index (word_address p i)) in
    ClosureIn.word i y.0 y.1 (closure_in found moments seen given w c) n lt (ap found (sym y.2) ∙ e)

pub closure_in_more : (found : ℕ → Option Found) (moments : List (List ℕ)) (given larger : ℕ → Type 0) → ((f : Found) → found f.base ≡ Some f → given f.base → ClosureIn found moments larger f)
    → {f : Found} → ClosureIn found moments given f → ClosureIn found moments larger f
closure_in_more found moments given larger g (ClosureIn.given {f = f} e k) = g f e k
closure_in_more found moments given larger g (ClosureIn.word i words m c n lt e) = ClosureIn.word i words m (closure_in_more found moments given larger g c) n lt e

module _ (found : ℕ → Option Found) (moments : List (List ℕ)) where
  pub stray_in : (seen : List ℕ) (m : Marking) (p : ℕ) → IsWoven moments seen → IsStrayPage found seen [] m p → IsStrayPageIn found moments m p
  stray_in seen m p w s =
      let y = w.each (word_index (word_address s.object s.index)) in
      record {
        object = s.object;
        is = s.is;
        normal = s.normal;
        reached = closure_in found moments seen (IsMarked m) w s.reached;
        index = s.index;
        inside = s.inside;
        on = s.on;
        words = y.0;
        moment = y.1;
        stray = subst (IsStray found (bytes_of m)) y.2 s.stray;
      }

  stray_in_more : (a b : Marking) → length b.dirty ≡ length a.dirty → ((f : Found) → found f.base ≡ Some f → IsMarked b f.base → ClosureIn found moments (IsMarked a) f) → (p : ℕ) → IsStrayPageIn found moments b p → IsStrayPageIn found moments a p
  stray_in_more a b size within p s = record {
    object = s.object;
    is = s.is;
    normal = s.normal;
    reached = closure_in_more found moments (IsMarked b) (IsMarked a) within s.reached;
    index = s.index;
    inside = s.inside;
    on = s.on;
    words = s.words;
    moment = s.moment;
    stray = subst (λ (n : ℕ). IsStray found (PAGE_BYTES * n) (word_at s.words (word_address s.object s.index))) size s.stray;
  }

  -- what is so for the words that were read is so at each moment
  pub traces_in : (seen : List ℕ) (a b : Marking) → IsWoven moments seen → AreBeside found a.dirty moments → StaysDirty a b → Traces found seen [] a b → TracesIn found moments a b
  traces_in seen a b w s stays x = record {
    marks_len = x.marks_len;
    dirty_len = x.dirty_len;
    marks = x.marks;
    objects = x.objects;
    within = λ f e k. closure_in found moments seen (IsMarked a) w (x.within f e k);
    dirtied = x.dirtied;
    keeps = λ before after hb ha t.
        invariant_moves found b seen after (woven_same found b.dirty moments seen after (beside_more found a b moments stays s) w ha)
        (x.keeps (invariant_moves found a before seen (agree_back found a.dirty seen before (woven_same found a.dirty moments seen before s w hb)) t));
    carried_len = x.carried_len;
    carried = x.carried;
    strays = λ p h. ⊎_elim (λ o. inl o) (λ y. inr (stray_in seen a p w y)) (x.strays p h);
    carries = λ before after hb ha t.
        carried_moves found b seen after (woven_same found b.dirty moments seen after (beside_more found a b moments stays s) w ha)
        (x.carries (carried_moves found a before seen (agree_back found a.dirty seen before (woven_same found a.dirty moments seen before s w hb)) t));
    beside = beside_more found a b moments stays s;
  }

  pub traces_in_refl : (a : Marking) → AreBeside found a.dirty moments → TracesIn found moments a a
  traces_in_refl a s = record {
    marks_len = refl;
    dirty_len = refl;
    marks = λ b h. h;
    objects = λ k h. inl h;
    within = λ f e k. ClosureIn.given e k;
    dirtied = λ p h. inl h;
    keeps = λ before after hb ha t. invariant_moves found a before after (s.same before after hb ha) t;
    carried_len = refl;
    carried = λ p h. h;
    strays = λ p h. inl h;
    carries = λ before after hb ha t. carried_moves found a before after (s.same before after hb ha) t;
    beside = s;
  }

  -- a change that is the same whatever the words are, and none of them is read
  pub traces_in_all : (a b : Marking) → AreBeside found a.dirty moments → StaysDirty a b → ((words : List ℕ) → Traces found words [] a b) → ((f : Found) → found f.base ≡ Some f → IsMarked b f.base → IsMarked a f.base)
      → ((p : ℕ) → Has b.carried p → Has a.carried p) → TracesIn found moments a b
  traces_in_all a b s stays x same carried = record {
    marks_len = (x []).marks_len;
    dirty_len = (x []).dirty_len;
    marks = (x []).marks;
    objects = (x []).objects;
    within = λ f e k. ClosureIn.given e (same f e k);
    dirtied = (x []).dirtied;
    keeps = λ before after hb ha t. (x after).keeps (invariant_moves found a before after (s.same before after hb ha) t);
    carried_len = (x []).carried_len;
    carried = (x []).carried;
    strays = λ p h. inl (carried p h);
    carries = λ before after hb ha t. (x after).carries (carried_moves found a before after (s.same before after hb ha) t);
    beside = beside_more found a b moments stays s;
  }

  pub traces_in_trans : (a b c : Marking) → TracesIn found moments a b → TracesIn found moments b c → TracesIn found moments a c
  traces_in_trans a b c x y = record {
    marks_len = y.marks_len ∙ x.marks_len;
    dirty_len = y.dirty_len ∙ x.dirty_len;
    marks = λ d h. y.marks d (x.marks d h);
    objects = λ k h. ⊎_elim (x.objects k) (λ o. inr o) (y.objects k h);
    within = λ f e k. closure_in_more found moments (IsMarked b) (IsMarked a) x.within (y.within f e k);
    dirtied = λ p h. dirtied_more found a b c x.marks y.marks p (y.dirtied p h) (x.dirtied p);
    keeps = λ before after hb ha t. y.keeps before after hb ha (x.keeps before before hb hb t);
    carried_len = y.carried_len ∙ x.carried_len;
    carried = λ p h. y.carried p (x.carried p h);
    strays = λ p h. ⊎_elim (λ o. x.strays p o) (λ s. inr (stray_in_more a b x.dirty_len x.within p s)) (y.strays p h);
    carries = λ before after hb ha t. y.carries before after hb ha (x.carries before before hb hb t);
    beside = y.beside;
  }

-- where there is one moment, its words are read
pub only_moment : (words m : List ℕ) → Contains (words ∷ []) m → words ≡ m
only_moment words m h =
    let l = h.1 in let z : h.0 ≡ 0 = omega arith in sym (ap (λ j. get_or (words ∷ []) j m) z) ∙ h.2

pub one_moment : (words : List ℕ) → Contains (words ∷ []) words
one_moment words = (0, (let l : 0 < 1 = omega arith in l), refl)

pub only_woven : (words seen : List ℕ) → IsWoven (words ∷ []) seen → seen ≡ words
only_woven words seen w =
    ext_get_or 0 seen words (w.size words (one_moment words)) (λ k lt. let e = w.each k in e.2 ∙ ap (λ m. get_or m k 0) (sym (only_moment words e.0 e.1)))

pub still_one : (found : ℕ → Option Found) (words : List ℕ) (dirty : List Bool) → AreBeside found dirty (words ∷ [])
still_one found words dirty = record { same = λ a b ha hb f is n i lt clean. ap (λ m. word_at m (word_address f i)) (sym (only_moment words a ha) ∙ only_moment words b hb) }

closure_one : (found : ℕ → Option Found) (words : List ℕ) (given : ℕ → Type 0) → {f : Found} → ClosureIn found (words ∷ []) given f → Closure found words [] given f
closure_one found words given (ClosureIn.given e k) = Closure.held e k
closure_one found words given (ClosureIn.word {p = p} i m h c n lt e) = Closure.word i (closure_one found words given c) n lt (ap (λ y. found (word_at y (word_address p i))) (only_moment words m h) ∙ e)

pub traces_one : (found : ℕ → Option Found) (words : List ℕ) (a b : Marking) → TracesIn found (words ∷ []) a b → Traces found words [] a b
traces_one found words a b x = record {
  marks_len = x.marks_len;
  dirty_len = x.dirty_len;
  marks = x.marks;
  objects = x.objects;
  within = λ f e k. closure_one found words (IsMarked a) (x.within f e k);
  dirtied = x.dirtied;
  keeps = x.keeps words words (one_moment words) (one_moment words);
  carried_len = x.carried_len;
  carried = x.carried;
  strays = λ p h. ⊎_elim (λ o. inl o) (λ (s : IsStrayPageIn found (words ∷ []) a p). inr (record {
    object = s.object;
    is = s.is;
    normal = s.normal;
    reached = closure_one found words (IsMarked a) s.reached;
    index = s.index;
    inside = s.inside;
    on = s.on;
    stray = subst (λ y. IsStray found (bytes_of a) (word_at y (word_address s.object s.index))) (sym (only_moment words s.words s.moment)) s.stray;
  })) (x.strays p h);
  carries = x.carries words words (one_moment words) (one_moment words);
}

-- on a page that nobody writes the words of an object are read as they are
pub still_words : (found : ℕ → Option Found) (words : List ℕ) (moments : List (List ℕ)) (seen : List ℕ) (f : Found) (first n page : ℕ) → IsStill found words moments page → found f.base ≡ Some f → f.kind ≡ Normal → first + n ≤ f.len → IsWoven moments seen → ((i : ℕ) → first ≤ i → i < first + n → page_of (word_address f i) ≡ page)
    → words_from seen f first n ≡ words_from words f first n
still_words found words moments seen f first n page still is normal fits w one =
    let a = length-map-range_with_len (λ i. word_at seen (word_address f i)) first n in
    let b = length-map-range_with_len (λ i. word_at words (word_address f i)) first n in
    ext_get_or 0 (words_from seen f first n) (words_from words f first n) (a ∙ sym b)
    (λ k lt.
    let below : k < n = omega (arith, lt, a) in
    let e = w.each (word_index (word_address f (first + k))) in
    get_or-map-range_with_len (λ i. word_at seen (word_address f i)) first n k (first + k) 0 below refl
    ∙ e.2
    ∙ still.same e.0 e.1 f is normal (first + k) (omega arith) (one (first + k) (omega arith) (omega arith))
    ∙ sym (get_or-map-range_with_len (λ i. word_at words (word_address f i)) first n k (first + k) 0 below refl))

-- It is said of an object by its base alone.
pub row_at : (found : ℕ → Option Found) (moments : List (List ℕ)) (f g : Found) (first n bytes : ℕ) (old new : Marking) → f.base ≡ g.base
    → MarksRow found moments f first n bytes (page_of (word_address f first)) old new → MarksRow found moments g first n bytes (page_of (word_address g first)) old new
row_at found moments f g first n bytes old new same r = record {
  seen = r.seen;
  woven = r.woven;
  marks = subst (λ (b : ℕ). MarksWords found old (map (λ i. word_at r.seen (b + WORD_BYTES * i)) (range_with_len first n)) (with_carried new old.carried)) same r.marks;
  carries = subst (λ (b : ℕ). CarriesPage found bytes (map (λ i. word_at r.seen (b + WORD_BYTES * i)) (range_with_len first n)) (page_of (b + WORD_BYTES * first)) old.carried new.carried) same r.carries;
}

pub row_marks : (found : ℕ → Option Found) (words : List ℕ) (moments : List (List ℕ)) (f : Found) (first n bytes at page : ℕ) (old new : Marking) → IsStill found words moments page → found f.base ≡ Some f → f.kind ≡ Normal → first + n ≤ f.len → ((i : ℕ) → first ≤ i → i < first + n → page_of (word_address f i) ≡ page)
    → MarksRow found moments f first n bytes at old new → MarksWords found old (words_from words f first n) (with_carried new old.carried)
row_marks found words moments f first n bytes at page old new still is normal fits one r =
    subst (λ (ws : List ℕ). MarksWords found old ws (with_carried new old.carried)) (still_words found words moments r.seen f first n page still is normal fits r.woven one) r.marks

pub row_carries : (found : ℕ → Option Found) (words : List ℕ) (moments : List (List ℕ)) (f : Found) (first n bytes at page : ℕ) (old new : Marking) → IsStill found words moments page → found f.base ≡ Some f → f.kind ≡ Normal → first + n ≤ f.len → ((i : ℕ) → first ≤ i → i < first + n → page_of (word_address f i) ≡ page)
    → MarksRow found moments f first n bytes at old new → CarriesPage found bytes (words_from words f first n) at old.carried new.carried
row_carries found words moments f first n bytes at page old new still is normal fits one r =
    subst (λ (ws : List ℕ). CarriesPage found bytes ws at old.carried new.carried) (still_words found words moments r.seen f first n page still is normal fits r.woven one) r.carries

-- A page that nobody writes was made clean and read again: what is so for the words of one moment is so at each.
pub retrace_in : (found : ℕ → Option Found) (words : List ℕ) (moments : List (List ℕ)) (page : ℕ) (a b : Marking) → AreMoments words moments → IsStill found words moments page → AreBeside found a.dirty moments
    → ((p : ℕ) → (p ≡ page → ⊥) → Has a.dirty p → Has b.dirty p) → Traces found words [] a b → TracesIn found moments a b
retrace_in found words moments page a b m still s others x =
    let same : (after : List ℕ) → Contains moments after → AgreeOff found b.dirty words after
    = λ after h f is n i lt clean. ⊎_elim
    (λ (here : page_of (word_address f i) ≡ page). sym (still.same after h f is n i lt here))
    (λ (there : page_of (word_address f i) ≡ page → ⊥). s.same words after m.one h f is n i lt (λ d. clean (others _ there d)))
    (cases_eq (page_of (word_address f i)) page) in
    let w : IsWoven moments words = record { size = λ o h. sym (m.size o h); each = λ k. (words, m.one, refl) } in
    record {
      marks_len = x.marks_len;
      dirty_len = x.dirty_len;
      marks = x.marks;
      objects = x.objects;
      within = λ f e k. closure_in found moments words (IsMarked a) w (x.within f e k);
      dirtied = x.dirtied;
      keeps = λ before after hb ha t. invariant_moves found b words after (same after ha) (x.keeps (invariant_moves found a before words (s.same before words hb m.one) t));
      carried_len = x.carried_len;
      carried = x.carried;
      strays = λ p h. ⊎_elim (λ o. inl o) (λ y. inr (stray_in found moments words a p w y)) (x.strays p h);
      carries = λ before after hb ha t. carried_moves found b words after (same after ha) (x.carries (carried_moves found a before words (s.same before words hb m.one) t));
      beside = record {
        same = λ u v hu hv f is n i lt clean. ⊎_elim
            (λ (here : page_of (word_address f i) ≡ page). still.same u hu f is n i lt here ∙ sym (still.same v hv f is n i lt here))
            (λ (there : page_of (word_address f i) ≡ page → ⊥). s.same u v hu hv f is n i lt (λ d. clean (others _ there d)))
            (cases_eq (page_of (word_address f i)) page);
      };
    }

pub still_as : (found : ℕ → Option Found) (a b : List ℕ) (m n : List (List ℕ)) (page : ℕ) → a ≡ b → m ≡ n → IsStill found a m page → IsStill found b n page
still_as found a b m n page e d still = subst (λ (x : List ℕ). IsStill found x n page) e (subst (λ (y : List (List ℕ)). IsStill found a y page) d still)

-- where nobody writes every page is still
pub still_here : (found : ℕ → Option Found) (words : List ℕ) (moments : List (List ℕ)) (page : ℕ) → moments ≡ words ∷ [] → IsStill found words moments page
still_here found words moments page one = record { same = λ m h f is n i lt on. ap (λ v. word_at v (word_address f i)) (sym (only_moment words m (subst (λ (l : List (List ℕ)). Contains l m) one h))) }
