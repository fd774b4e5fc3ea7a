-- What lies on a page has the first byte of one of its words, and these are gone over from object to object.
use Rattle.std.proofs.Common.{◌≡◌, ℕ, ◌+◌, ◌-◌, ◌/◌, ◌%◌, ◌<◌, ◌≤◌, List, get_or, subst, arith, ⊎_elim}
use Rattle.std.specs.Prelude.{All, Some, slice_get}
use Rattle.std.proofs.lemmas.Bool.{cases_lt}
use Rattle.words.specs.declared.class.Kind.{Kind}
use Rattle.words.specs.declared.limits.TheConstants.{WORD_BYTES, PAGE_WORDS}
use Rattle.words.specs.Layout.{page_start}
use Rattle.heap_spec.specs.Layout.{PointsInto, LiesOn}
use Rattle.plain_heap.specs.declared.extent.Extent.{Extent}
use Rattle.plain_heap.specs.Owners.{AreOwners}
use Rattle.plain_heap.specs.Places.{word_start}
use Rattle.plain_heap.proofs.Owning.{one_there}

word_on : (page : ℕ) (e : Extent) → e.base % WORD_BYTES ≡ 0 → 0 < e.length → LiesOn e.base e.length page → (g : ℕ) × (g < PAGE_WORDS) × PointsInto (word_start page g) e.base e.length
word_on page e even some lies = ⊎_elim
    (λ before. (0, omega arith, (omega (arith, before), omega (arith, lies.1))))
    (λ from. ((e.base - page_start page) / WORD_BYTES, omega (arith, from, lies.0), (omega (arith, from, even), omega (arith, from, even, some))))
    (cases_lt e.base (page_start page))

on_word : (page g : ℕ) (e : Extent) → g < PAGE_WORDS → PointsInto (word_start page g) e.base e.length → LiesOn e.base e.length page
on_word page g e lt reads = (omega (arith, lt, reads.0), omega (arith, reads.1))

module _ (row : List Extent) (some : All (λ e. 0 < e.length) row) (evens : All (λ e. e.base % WORD_BYTES ≡ 0) row) (P : Extent → Type 0) (page : ℕ) where
  -- what is so of each object that has such a byte is so of each that lies on the page
  pub all_on : (n : ℕ) → PAGE_WORDS ≤ n → ((g : ℕ) → g < n → All (λ e. PointsInto (word_start page g) e.base e.length → P e) row) → All (λ e. LiesOn e.base e.length page → P e) row
  all_on n all so k d lt lies =
      let e : Extent = get_or row k d in
      let more : 0 < e.length = some k d lt in
      let g = word_on page e (evens k d lt) more lies in
      so g.0 (omega (arith, g.1, all)) k d lt g.2

  pub not_on : (g : ℕ) → g < PAGE_WORDS → (All (λ e. PointsInto (word_start page g) e.base e.length → P e) row → ⊥) → All (λ e. LiesOn e.base e.length page → P e) row → ⊥
  not_on g small not so = not (λ k d lt reads. so k d lt (on_word page g (get_or row k d) small reads))

-- from one word of the page up to another, each object that has one has this length and this kind
abbrev pub AreCutWords : List Extent → ℕ → ℕ → Kind → ℕ → ℕ → Type 0
AreCutWords row page length kind from to = (g : ℕ) → from ≤ g → g < to → All (λ e. PointsInto (word_start page g) e.base e.length → (e.length ≡ length) × (e.kind ≡ kind)) row

-- the words of one object from one of them on
pub cut_more : (origin : ℕ) (row : List Extent) (owners : List ℕ) → AreOwners origin row owners → (page word length more : ℕ) (kind : Kind) (i : ℕ) (e : Extent) → slice_get row i ≡ Some e → PointsInto (word_start page word) e.base e.length
    → (e.length ≡ length) × (e.kind ≡ kind) → more ≡ e.length - (word_start page word - e.base) / WORD_BYTES → (word < word + more) × AreCutWords row page length kind word (word + more)
cut_more origin row owners own page word length more kind i e at reads agrees is = (omega (arith, is, reads.0, reads.1), each)
  where
    each : AreCutWords row page length kind word (word + more)
    each g from until k d lt there =
        let mine : PointsInto (word_start page g) e.base e.length = (omega (arith, from, reads.0), omega (arith, is, from, until, reads.0, reads.1)) in
        subst (λ (x : Extent). (x.length ≡ length) × (x.kind ≡ kind)) (one_there origin row owners own (word_start page g) i e at mine k d lt there) agrees

-- a word of no object
pub cut_one : (row : List Extent) (page word length next : ℕ) (kind : Kind) → All (λ e. PointsInto (word_start page word) e.base e.length → ⊥) row → next ≡ word + 1 → AreCutWords row page length kind word next
cut_one row page word length next kind bare is g from until k d lt there =
    let same : g ≡ word = omega arith in
    absurd (bare k d lt (subst (λ x. PointsInto (word_start page x) (get_or row k d).base (get_or row k d).length) same there))

pub cut_goes : (row : List Extent) (page length word next : ℕ) (kind : Kind) → AreCutWords row page length kind 0 word → AreCutWords row page length kind word next → AreCutWords row page length kind 0 next
cut_goes row page length word next kind before more g from until = ⊎_elim (λ under. before g from under) (λ over. more g over until) (cases_lt g word)
