-- Words of an object that a helper reads.
use Rattle.std.proofs.Common.{◌≡◌, ℕ, ◌+◌, ◌*◌, ◌<◌, ◌≤◌, List, Contains, Option, Some, None, length, refl, sym, ap, subst, ◌∙◌, inl, inr, ⊎_elim, arith}
use Rattle.std.proofs.lemmas.Bool.{cases_lt}
use Rattle.words.specs.declared.limits.TheConstants.{PAGE_WORDS}
use Rattle.std.specs.Prelude.{◌⊎◌, slice_range}
use Rattle.pages.specs.Memory.{word_index}
use Rattle.words.specs.Bits.{Has}
use Rattle.words.specs.Layout.{granule, page_of}
use Rattle.mark_bits.specs.Tables.{view, start_of, IsOf}
use Rattle.mark_bits.specs.Claims.{knows}
use Rattle.block_map.specs.declared.found.Found.{Found}
use Rattle.block_map.specs.Objects.{IsMap, IsPlaced}
use Rattle.marker.specs.Marking.{bytes_of, word_address}
use Rattle.marker.specs.Growth.{CarriesPage, IsNoStray, IsStray, words_from}
use Rattle.marker.proofs.Closures.{at_base}
use Rattle.marker.proofs.Words.{contains_word, run_words, word_of}
use Rattle.final_pause.specs.declared.helper.Helper.{Helper}
use Rattle.final_pause.specs.Pauses.{PauseView}
use Rattle.final_pause.specs.Helping.{found, word_in, HelperGrows, IsObjectOf, IsRowOf, IsTargetKnown, IsWordRead, unknown, ClaimsOnly, VisitsAll, IsWordOf, ReadsWords, HasStrayOn}
use Rattle.final_pause.proofs.Growing.{word_more, extends_refl, extends_trans, only_trans, only_more}

-- a word that is stray neither points into an object nor lies outside of the heap
not_stray : (found : ℕ → Option Found) (bytes w : ℕ) → IsStray found bytes w → IsNoStray found bytes w → ⊥
not_stray found bytes w s other = ⊎_elim
    (λ (o : (g : Found) × (found w ≡ Some g)). let z : None ≡ Some o.0 = sym s.nothing ∙ o.1 in cc z)
    (λ out. let from = s.from in let below = s.below in ⊎_elim (λ low. omega (arith, from, low)) (λ high. omega (arith, below, high)) out)
    other

-- the words of an object that a reader lends
pub lent_words : (memory words run : List ℕ) (pages : ℕ) (f : Found) (first n start : ℕ) → IsPlaced pages f → first + n ≤ f.len → length memory ≡ PAGE_WORDS * pages → start ≡ word_address f first
    → run ≡ slice_range words (word_index start) (word_index start + n) → words ≡ memory → run ≡ words_from memory f first n
lent_words memory words run pages f first n start placed fits size is lent same =
    let below = placed.below in let above = placed.above in let aligned = placed.aligned in
    let inside : word_index start + n ≤ length memory = omega arith in
    lent ∙ ap (λ (ws : List ℕ). slice_range ws (word_index start) (word_index start + n)) same ∙ run_words memory f first n start is (omega arith) inside

-- of n words of an object, from its word `first` on, some were read
pub record ReadsSome (p : PauseView) (P : ℕ → Type 0) (f : Found) (first n : ℕ) (old new : Helper) : Type 0 where
  pub extends : HelperGrows p old new
  pub read : (i : ℕ) → first ≤ i → i < first + n → P i → IsWordRead p (view new.claimer) new.carried f i
  pub strays : (q : ℕ) → Has new.carried q → Has old.carried q ⊎ HasStrayOn p f q
  pub only : ClaimsOnly p (IsWordOf p f) old new

-- words of an object that stand on one page are a row from the address of the first one on
pub row_of : (p : PauseView) (f : Found) (first count start : ℕ) → IsMap (length p.map) (found p) → IsObjectOf p f → first + count ≤ f.len
    → ((i : ℕ) → first ≤ i → i < first + count → page_of (word_address f i) ≡ page_of (word_address f first)) → start ≡ word_address f first → IsRowOf p f first start count
row_of p f first count start map object inside one_page at = record {
  is = at_base (length p.map) (found p) map object.word f object.points;
  at = at;
  inside = inside;
  one_page = λ i from below. one_page i from below ∙ ap page_of (sym at);
}

module _ (p : PauseView) where
  -- a page has become carried, and nothing else has changed
  extends_carried : (b c : Helper) → IsOf p.table b.claimer → c.claimer ≡ b.claimer → c.waiting ≡ b.waiting → c.dirty ≡ b.dirty → c.place ≡ b.place → length c.carried ≡ length b.carried → ((q : ℕ) → Has b.carried q → Has c.carried q)
      → HelperGrows p b c
  extends_carried b c of cl st di sh size more = record {
    of = subst (IsOf p.table) (sym cl) of;
    place = sh;
    learns = record { right = ap (λ h. (view h).right) cl; known = λ k e. ap (λ h. knows (view h) k) cl ∙ e };
    won = λ k h. subst (λ d. Contains (view d).won k) (sym cl) h;
    dirty_len = ap length di;
    dirty = λ q h. subst (λ d. Has d q) (sym di) h;
    dirtied = λ q h. inl (subst (λ d. Has d q) di h);
    carried_len = size;
    carried = more;
    waiting = λ k h. subst (λ s. Contains s k) (sym st) h;
    fresh = λ f e h. inl (subst (λ d. Contains (view d).won (granule f.base)) cl h);
    own = λ o k h. subst (λ d. Contains (view d).won (granule k.base)) (sym cl) (o k (subst (λ s. Contains s k) st h));
    left =
        let u : unknown (length (start_of p.table)) (view c.claimer) ≡ unknown (length (start_of p.table)) (view b.claimer) = ap (λ h. unknown (length (start_of p.table)) (view h)) cl in
        let s : length c.waiting ≡ length b.waiting = ap (λ s. length s) st in
        omega (arith, u, s);
  }

  only_carried : (P : ℕ → Type 0) (a b c : Helper) → c.claimer ≡ b.claimer → c.waiting ≡ b.waiting → ClaimsOnly p P a b → ClaimsOnly p P a c
  only_carried P a b c cl st x = record {
    won = λ k h. x.won k (subst (λ d. Contains (view d).won k) cl h);
    entries = λ e h. x.entries e (subst (λ s. Contains s e) st h);
  }

  -- some words of an object, of those that lie in a row on one page, which was carried then or not
  pub reads_some : (P : ℕ → Type 0) (ws : List ℕ) (f : Found) (first n page : ℕ) (a b c : Helper) → first + n ≤ f.len → ((i : ℕ) → first ≤ i → i < first + n → page_of (word_address f i) ≡ page)
      → ((i : ℕ) → first ≤ i → i < first + n → P i → Contains ws (word_in p f i)) → ((w : ℕ) → Contains ws w → Contains (words_from p.memory f first n) w) → VisitsAll p ws a b
      → c.claimer ≡ b.claimer → c.waiting ≡ b.waiting → c.dirty ≡ b.dirty → c.place ≡ b.place → CarriesPage (found p) (bytes_of p.marker) ws page b.carried c.carried → ReadsSome p P f first n a c
  reads_some P ws f first n page a b c fits one_page among within v cl st di sh carries = record {
    extends = extends_trans p a b c v.extends (extends_carried b c v.extends.of cl st di sh carries.len carries.stays);
    read = λ i le lt one.
        let here = among i le lt one in
        record {
          known = subst (λ h. IsTargetKnown p (view h) (word_in p f i)) (sym cl) (v.targets (word_in p f i) here);
          settled = λ s. ⊎_elim
              (λ h. subst (Has c.carried) (sym (one_page i le lt)) h)
              (λ other. absurd (not_stray (found p) (bytes_of p.marker) (word_in p f i) s other))
              (carries.all (word_in p f i) here);
        };
    strays = λ q h. ⊎_elim
        (λ o. inl (subst (λ r. Has r q) v.carried o))
        (λ (s : (q ≡ page) × ((w : ℕ) × Contains ws w × IsStray (found p) (bytes_of p.marker) w)).
        let y = word_of p.memory f first n s.1.0 (within s.1.0 s.1.1) in let l = y.2 in
        inr (record { index = y.0; inside = omega (arith, l, fits); on = one_page y.0 y.1 y.2 ∙ sym s.0; stray = subst (IsStray (found p) (bytes_of p.marker)) y.3 s.1.2 }))
        (carries.only q h);
    only = only_carried (IsWordOf p f) a b c cl st (only_more p (λ w. Contains ws w) (IsWordOf p f) a b
        (λ w h. let y = word_of p.memory f first n w (within w h) in let l = y.2 in (y.0, omega (arith, l, fits), y.3)) v.only);
  }

  -- all of them
  pub reads_run : (f : Found) (first n page : ℕ) (a b c : Helper) → first + n ≤ f.len → ((i : ℕ) → first ≤ i → i < first + n → page_of (word_address f i) ≡ page) → VisitsAll p (words_from p.memory f first n) a b
      → c.claimer ≡ b.claimer → c.waiting ≡ b.waiting → c.dirty ≡ b.dirty → c.place ≡ b.place → CarriesPage (found p) (bytes_of p.marker) (words_from p.memory f first n) page b.carried c.carried → ReadsWords p f first n a c
  reads_run f first n page a b c fits one_page v cl st di sh carries =
      let r = reads_some (λ i. i ≡ i) (words_from p.memory f first n) f first n page a b c fits one_page (λ i le lt one. contains_word p.memory f first n i le lt) (λ w h. h) v cl st di sh carries in
      record { extends = r.extends; read = λ i le lt. r.read i le lt refl; strays = r.strays; only = r.only }

  -- no word was read
  pub reads_none : (f : Found) (first : ℕ) (a : Helper) → IsOf p.table a.claimer → ReadsWords p f first 0 a a
  reads_none f first a of = record {
    extends = extends_refl p a of;
    read = λ i le lt. absurd (omega (arith, le, lt));
    strays = λ q h. inl h;
    only = record { won = λ k c. inl c; entries = λ e c. inl c };
  }

  -- words and then the next ones were read
  pub reads_append : (f : Found) (first k next n : ℕ) (a b c : Helper) → next ≡ first + k → ReadsWords p f first k a b → ReadsWords p f next n b c → ReadsWords p f first (k + n) a c
  reads_append f first k next n a b c is x y = record {
    extends = extends_trans p a b c x.extends y.extends;
    read = λ i le lt. ⊎_elim
        (λ (before : i < first + k). word_more p (view b.claimer) (view c.claimer) b.carried c.carried y.extends.learns.known y.extends.carried f i (x.read i le before))
        (λ after. y.read i (omega (arith, after, is)) (omega (arith, lt, is)))
        (cases_lt i (first + k));
    strays = λ q h. ⊎_elim (λ o. x.strays q o) (λ s. inr s) (y.strays q h);
    only = only_trans p (IsWordOf p f) a b c x.only y.only;
  }
