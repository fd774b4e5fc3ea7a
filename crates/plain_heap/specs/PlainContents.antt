-- What a plain heap contains.
use Rattle.std.specs.Prelude.{◌≡◌, ℕ, ◌+◌, ◌*◌, ◌%◌, ◌<◌, ◌≤◌, ◌⊎◌, nat_eq, List, length, map, All, Contains}
use Rattle.std.specs.List.{IsDistinct}
use Rattle.words.specs.declared.limits.TheConstants.{WORD_BYTES, PAGE_WORDS, PAGE_BYTES, FIRST_ADDRESS, MAX_PAGES, MAX_SMALL_WORDS}
use Rattle.words.specs.Layout.{page_start}
use Rattle.heap_spec.specs.Layout.{word_end, PointsInto}
use Rattle.roots.specs.Roots.{RootSet}
use Rattle.links.specs.declared.row.Link.{Link}
use Rattle.links.specs.Leaving.{word_index}
use Rattle.plain_heap.specs.declared.extent.Extent.{Extent}

-- A plain heap: the address of its first word, how many pages it has, their words in the order of their addresses, where the
-- objects lie, the roots, and the links. A link names an object by its base.
pub record PlainContents : Type 0 where
  pub origin : ℕ
  pub pages : ℕ
  pub words : List ℕ
  pub objects : List Extent
  pub roots : RootSet
  pub links : List Link

-- the address past the last byte of a heap of so many pages that begins at `origin`
abbrev pub end_of : ℕ → ℕ → ℕ
end_of origin pages = origin + PAGE_BYTES * pages

-- the object lies in the heap, and begins at a word
pub record IsInHeap (origin pages : ℕ) (e : Extent) : Type 0 where
  pub start : origin ≤ e.base
  pub aligned : e.base % WORD_BYTES ≡ 0
  pub some : 0 < e.length
  pub ends : e.base + WORD_BYTES * e.length ≤ end_of origin pages

-- a cell of its page
pub record IsCellExtent (e : Extent) : Type 0 where
  pub page : ℕ
  pub cell : ℕ
  pub few : e.length ≤ MAX_SMALL_WORDS
  pub in_page : e.length * (cell + 1) ≤ PAGE_WORDS
  pub is_cell : e.base ≡ page_start page + WORD_BYTES * (e.length * cell)

-- pages of its own
pub record HasPages (e : Extent) : Type 0 where
  pub first : ℕ
  pub count : ℕ
  pub some : 1 ≤ count
  pub whole : e.length ≡ PAGE_WORDS * count
  pub is_start : e.base ≡ page_start first

-- the object lies where objects are placed
abbrev pub IsPlacedExtent : Extent → Type 0
IsPlacedExtent e = IsCellExtent e ⊎ HasPages e

-- the number of the word at which an object begins
abbrev pub first_word : ℕ → Extent → ℕ
first_word origin e = word_index origin e.base

-- What is true of every plain heap, wherever it begins and its objects were placed. The word 0 points into no object, no address
-- points into two, and no two begin at one word, so that there are never more objects than words.
pub record IsLaidOut (c : PlainContents) : Type 0 where
  pub pages : c.pages ≤ MAX_PAGES
  pub starts : c.origin % WORD_BYTES ≡ 0
  pub past_zero : 0 < c.origin
  pub fits : end_of c.origin c.pages < word_end
  pub words : length c.words ≡ PAGE_WORDS * c.pages
  pub in_heap : All (IsInHeap c.origin c.pages) c.objects
  pub distinct : IsDistinct nat_eq (map (first_word c.origin) c.objects)
  pub apart : (e f : Extent) (w : ℕ) → Contains c.objects e → Contains c.objects f → PointsInto w e.base e.length → PointsInto w f.base f.length → e ≡ f

-- the heap begins where those with size classes do, and each object lies where these place it
abbrev pub ArePlaced : PlainContents → Type 0
ArePlaced c = (c.origin ≡ FIRST_ADDRESS) × All IsPlacedExtent c.objects
