-- The free cells of a page as a list through their own first words.
use Rattle.std.specs.Prelude.{◌≡◌, ◌≢◌, ℕ, ◌+◌, ◌*◌, ◌<◌, ◌≤◌, ◌⊎◌, ◌==◌, if◌then◌else◌, Bool, true, false, List, [], ◌∷◌, length, slice_index, slice_index_or, slice_set}
use Rattle.words.specs.declared.limits.TheConstants.{PAGE_WORDS, WORD_BYTES}
use Rattle.words.specs.Bits.{IsFirstClearFrom, IsFullFrom, IsFullRow}
use Rattle.words.specs.Layout.{page_start}
use Rattle.pages.specs.Memory.{word_at, word_index}
use Rattle.blocks.specs.Cells.{Cells}
use Rattle.blocks.specs.declared.list.TheConstants.{LIST_END, UNLISTED}

-- the first address of a cell
abbrev pub cell_start : ℕ → ℕ → ℕ → ℕ
cell_start page class cell = page_start page + cell * (WORD_BYTES * class)

-- the number that stands in the first word of a cell
abbrev pub link_of : List ℕ → ℕ → ℕ → ℕ → ℕ
link_of words page class cell = word_at words (cell_start page class cell)

-- a free cell of the row
pub record IsFreeCellOf (row : List Bool) (cell : ℕ) : Type 0 where
  pub inside : cell < length row
  pub free : slice_index_or row cell false ≡ false

-- The list that begins with `first` has each free cell of the row once: it is at its end and no cell is free, or `first` is
-- free, and the list that begins with its link has the others.
pub data Lists (link : ℕ → ℕ) : List Bool → ℕ → Type 0 where
  ends : (row : List Bool) (first : ℕ) → first ≡ LIST_END → IsFullRow row → Lists link row first
  goes_on : (row : List Bool) (first : ℕ) → first < length row → slice_index_or row first false ≡ false → Lists link (slice_set row first true) (link first) → Lists link row first

-- The list of a block's free cells stands in this memory.
abbrev pub IsListed : List ℕ → ℕ → Cells → Type 0
IsListed words page b = Lists (link_of words page b.class) b.taken b.first

-- The block has no list yet, or it stands in this memory.
abbrev pub MayBeListed : List ℕ → ℕ → Cells → Type 0
MayBeListed words page b = (b.first ≡ UNLISTED) ⊎ IsListed words page b

-- where the list begins once a cell is put back: a block that has no list still has none
abbrev pub first_after_put : ℕ → ℕ → ℕ
first_after_put first cell = if first == UNLISTED then UNLISTED else cell

-- the lowest free cell from `low` on, or the end of a list if there is none
abbrev pub IsFirstOrEnd : List Bool → ℕ → ℕ → Type 0
IsFirstOrEnd row low first = ((first ≡ LIST_END) × IsFullFrom row low) ⊎ IsFirstClearFrom row low first

-- Cells were taken from a list one after the other, each the first one then.
pub data Pops (link : ℕ → ℕ) : List Bool → ℕ → List ℕ → List Bool → ℕ → Type 0 where
  done : {row : List Bool} {first : ℕ} → Pops link row first [] row first
  next : {row new : List Bool} {first last : ℕ} {more : List ℕ} → IsFreeCellOf row first → Pops link (slice_set row first true) (link first) more new last → Pops link row first (first ∷ more) new last

-- at most the first words of free cells have changed
pub record ChangesFree (old new : List ℕ) (page class : ℕ) (row : List Bool) : Type 0 where
  pub size : length new ≡ length old
  pub others : (k : ℕ) → ((i : ℕ) → IsFreeCellOf row i → k ≢ word_index (cell_start page class i)) → slice_index new k ≡ slice_index old k

-- the page has its words in this memory
abbrev pub HasPage : List ℕ → ℕ → Type 0
HasPage words page = PAGE_WORDS * page + PAGE_WORDS ≤ length words

-- at most words of the page have changed
pub record ChangesPage (old new : List ℕ) (page : ℕ) : Type 0 where
  pub size : length new ≡ length old
  pub others : (k : ℕ) → k < PAGE_WORDS * page ⊎ PAGE_WORDS * page + PAGE_WORDS ≤ k → slice_index new k ≡ slice_index old k

-- a cell of the row that is allocated
pub record IsTakenCellOf (row : List Bool) (cell : ℕ) : Type 0 where
  pub inside : cell < length row
  pub taken : slice_index_or row cell false ≡ true

-- The free cells from `low` on are a list, as they are where all below are allocated.
pub record IsLinkedFrom (link : ℕ → ℕ) (row : List Bool) (low first : ℕ) : Type 0 where
  pub rest : List Bool
  pub size : length rest ≡ length row
  pub below : (i : ℕ) → i < low → slice_index_or rest i true ≡ true
  pub from : (i : ℕ) → low ≤ i → slice_index_or rest i true ≡ slice_index_or row i true
  pub lists : Lists link rest first
  pub lowest : IsFirstOrEnd row low first
