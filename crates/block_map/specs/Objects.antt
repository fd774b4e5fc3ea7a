-- The allocated objects of a map, and the one that a word points into.
use Rattle.std.specs.Prelude.{◌≡◌, ℕ, ◌+◌, ◌*◌, ◌%◌, ◌<◌, ◌≤◌, true, false, List, length, slice_index_or, MatchOption, Option, Some}
use Rattle.words.specs.declared.class.Kind.{Kind}
use Rattle.words.specs.declared.class.Kind.TheVariants.{Normal}
use Rattle.words.specs.declared.limits.TheConstants.{FIRST_ADDRESS, GRANULE_BYTES, PAGE_BYTES, WORD_BYTES, PAGE_WORDS}
use Rattle.blocks.specs.Cells.{Cells}
use Rattle.words.specs.Layout.{page_start}
use Rattle.block_map.specs.States.{PageState, free, cut, head, body, state_at}
use Rattle.block_map.specs.declared.found.Found.{Found}

-- the object in the cell i of a block
abbrev pub cell_object : ℕ → Cells → ℕ → Found
cell_object page b i = record { base = page_start page + i * (WORD_BYTES * b.class); len = b.class; kind = b.kind; page = page; cell = i }

-- the large object of n pages from a page on
abbrev pub large_object : ℕ → ℕ → Kind → Found
large_object page n kind = record { base = page_start page; len = PAGE_WORDS * n; kind = kind; page = page; cell = 0 }

-- the object that this state gives a page, in its cell i; where no object can begin it has no words
abbrev pub object_on : ℕ → PageState → ℕ → Found
object_on page free i = record { base = page_start page; len = 0; kind = Normal; page = page; cell = 0 }
object_on page (cut b) i = cell_object page b i
object_on page (head n kind) i = large_object page n kind
object_on page (body first) i = record { base = page_start page; len = 0; kind = Normal; page = page; cell = 0 }

-- the object stands on its page, whose state this is
abbrev pub IsObjectOn : PageState → Found → Type 0
IsObjectOn free f = ⊥
IsObjectOn (cut b) f = (f ≡ cell_object f.page b f.cell) × (f.cell < length b.taken) × (slice_index_or b.taken f.cell false ≡ true)
IsObjectOn (head n kind) f = f ≡ large_object f.page n kind
IsObjectOn (body first) f = ⊥

-- the object is one of the map's
pub record IsObject (states : List PageState) (f : Found) : Type 0 where
  pub page : f.page < length states
  pub on : IsObjectOn (state_at states f.page) f

-- the word is an address inside the object
pub record IsInside (w : ℕ) (f : Found) : Type 0 where
  pub from : f.base ≤ w
  pub below : w < f.base + WORD_BYTES * f.len

-- the object that the word points into and the only such one, or None exactly where it points into none
abbrev pub IsFoundOrNone : List PageState → ℕ → Option Found → Type 0
IsFoundOrNone states w r =
    MatchOption r ((f : Found) → IsObject states f → IsInside w f → ⊥)
    (λ f. IsObject states f × IsInside w f × ((g : Found) → IsObject states g → IsInside w g → g ≡ f))

-- an object that is no larger than a page lies on one
abbrev pub LiesOnPage : Found → Type 0
LiesOnPage f = f.len ≤ PAGE_WORDS → f.base % PAGE_BYTES + WORD_BYTES * f.len ≤ PAGE_BYTES

-- where an object lies in a heap of so many pages
pub record IsPlaced (pages : ℕ) (f : Found) : Type 0 where
  pub aligned : f.base % GRANULE_BYTES ≡ 0
  pub above : FIRST_ADDRESS ≤ f.base
  pub below : f.base + WORD_BYTES * f.len ≤ page_start pages
  pub some : 0 < f.len

-- What the collector knows of a map as the function from each word to the object that it points into: a word
-- points into the object that it finds, each word of an object finds that same object, and objects lie in the heap.
pub record IsMap (pages : ℕ) (found : ℕ → Option Found) : Type 0 where
  pub reads : (w : ℕ) (f : Found) → found w ≡ Some f → IsInside w f
  pub whole : (w v : ℕ) (f : Found) → found w ≡ Some f → IsInside v f → found v ≡ Some f
  pub placed : (w : ℕ) (f : Found) → found w ≡ Some f → IsPlaced pages f
