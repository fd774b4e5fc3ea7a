-- Where a row of objects leaves room.
use Rattle.std.specs.Prelude.{◌≡◌, ℕ, ◌+◌, ◌*◌, ◌%◌, ◌<◌, ◌≤◌, ◌⊎◌, List, All, Contains, length}
use Rattle.words.specs.declared.class.Kind.{Kind}
use Rattle.words.specs.declared.class.Placement.{Placement}
use Rattle.words.specs.declared.class.Placement.TheVariants.{Small, Large}
use Rattle.words.specs.declared.limits.TheConstants.{WORD_BYTES, GRANULE_WORDS, PAGE_WORDS, MAX_SMALL_WORDS}
use Rattle.words.specs.Layout.{page_start}
use Rattle.heap_spec.specs.Layout.{PointsInto, LiesOn}
use Rattle.plain_heap.specs.declared.extent.Extent.{Extent}

-- the address of a word of the page
abbrev pub word_start : ℕ → ℕ → ℕ
word_start page g = page_start page + WORD_BYTES * g

-- no object lies on the page
abbrev pub IsFreePage : List Extent → ℕ → Type 0
IsFreePage row page = All (λ e. LiesOn e.base e.length page → ⊥) row

-- each object on the page has this length and this kind
abbrev pub IsCutPage : List Extent → ℕ → ℕ → Kind → Type 0
IsCutPage row page length kind = All (λ e. LiesOn e.base e.length page → (e.length ≡ length) × (e.kind ≡ kind)) row

-- no object has this base
abbrev pub IsNoBase : List Extent → ℕ → Type 0
IsNoBase row a = All (λ e. e.base ≡ a → ⊥) row

-- the address of a cell of the page, for so many words
pub record IsCellAt (page length a : ℕ) : Type 0 where
  pub cell : ℕ
  pub in_page : length * (cell + 1) ≤ PAGE_WORDS
  pub is_cell : a ≡ page_start page + WORD_BYTES * (length * cell)

-- a place on a page for an object of a class
pub record IsPlaceOn (row : List Extent) (page length : ℕ) (kind : Kind) (a : ℕ) : Type 0 where
  pub cell : ℕ
  pub in_page : length * (cell + 1) ≤ PAGE_WORDS
  pub is_cell : a ≡ page_start page + WORD_BYTES * (length * cell)
  pub cut : IsFreePage row page ⊎ (IsCutPage row page length kind × IsNoBase row a)

-- a place for an object of a class
pub record IsSmallPlace (row : List Extent) (pages length : ℕ) (kind : Kind) (a : ℕ) : Type 0 where
  pub page : ℕ
  pub in_heap : page < pages
  pub on : IsPlaceOn row page length kind a

-- a place for a large object
pub record IsLargePlace (row : List Extent) (pages count a : ℕ) : Type 0 where
  pub first : ℕ
  pub in_heap : first + count ≤ pages
  pub is_start : a ≡ page_start first
  pub free : (page : ℕ) → first ≤ page → page < first + count → IsFreePage row page

-- a place for an object of this placement
abbrev pub IsPlace : List Extent → ℕ → Placement → Kind → ℕ → Type 0
IsPlace row pages (Small class) kind a = IsSmallPlace row pages class kind a
IsPlace row pages (Large count) kind a = IsLargePlace row pages count a

-- a placement that requests have: even words of a class that fit a page at least twice, or at least one page
abbrev pub IsSized : Placement → Type 0
IsSized (Small class) = (0 < class) × (class ≤ MAX_SMALL_WORDS) × (class % GRANULE_WORDS ≡ 0)
IsSized (Large count) = 1 ≤ count

-- no object shares a byte with a new one
abbrev pub IsFresh : List Extent → Extent → Type 0
IsFresh row e = (f : Extent) (w : ℕ) → Contains row f → PointsInto w e.base e.length → PointsInto w f.base f.length → ⊥
