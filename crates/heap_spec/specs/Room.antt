-- Where an allocation may be placed.
use Rattle.std.specs.Prelude.{◌≡◌, ℕ, ◌+◌, ◌*◌, ◌<◌, ◌≤◌, None, length, ◌⊎◌}
use Rattle.words.specs.declared.limits.TheConstants.{WORD_BYTES, PAGE_WORDS}
use Rattle.words.specs.declared.class.Kind.{Kind}
use Rattle.words.specs.declared.class.Placement.{Placement}
use Rattle.words.specs.declared.class.Placement.TheVariants.{Small, Large}
use Rattle.words.specs.Layout.{page_start}
use Rattle.heap_spec.specs.Layout.{LiesOn}
use Rattle.heap_spec.specs.Heap.{Heap, Object, HasObject}

-- no object lies on the page
abbrev pub IsEmptyPage : Heap → ℕ → Type 0
IsEmptyPage s page = (base : ℕ) (o : Object) → HasObject s base o → LiesOn base (length o.words) page → ⊥

-- each object on the page has this many words and this kind
abbrev pub IsCutFor : Heap → ℕ → ℕ → Kind → Type 0
IsCutFor s page class kind = (base : ℕ) (o : Object) → HasObject s base o → LiesOn base (length o.words) page → (length o.words ≡ class) × (o.kind ≡ kind)

-- An address has room for a small request if it is a cell of the class on a page that has no object on it, or only
-- objects of the class and kind, none of them at that cell.
pub record HasSmallRoom (s : Heap) (class : ℕ) (kind : Kind) (a : ℕ) : Type 0 where
  pub page : ℕ
  pub cell : ℕ
  pub in_heap : page < s.pages
  pub in_page : class * (cell + 1) ≤ PAGE_WORDS
  pub is_cell : a ≡ page_start page + WORD_BYTES * (class * cell)
  pub cut : IsEmptyPage s page ⊎ (IsCutFor s page class kind × (s.objects a ≡ None))

-- An address has room for a large request if it is the start of so many pages in a row on which no object lies.
pub record HasLargeRoom (s : Heap) (pages a : ℕ) : Type 0 where
  pub first : ℕ
  pub in_heap : first + pages ≤ s.pages
  pub is_start : a ≡ page_start first
  pub free : (page : ℕ) → first ≤ page → page < first + pages → IsEmptyPage s page

-- the address has room for a request of this placement
abbrev pub HasRoom : Heap → Placement → Kind → ℕ → Type 0
HasRoom s (Small class) kind a = HasSmallRoom s class kind a
HasRoom s (Large pages) kind a = HasLargeRoom s pages a

-- The words of an object are those of its placement, never the words that were asked for.
abbrev pub length_of : Placement → ℕ
length_of (Small class) = class
length_of (Large pages) = PAGE_WORDS * pages
