-- What it is to sweep the cells of a page.
use Rattle.std.specs.Prelude.{◌≡◌, ℕ, ◌+◌, ◌*◌, ◌/◌, ◌<◌, ◌≤◌, Bool, false, List, length, slice_index_or}
use Rattle.words.specs.declared.limits.TheConstants.{GRANULE_WORDS, PAGE_GRANULES}
use Rattle.words.specs.Bits.{Has}
use Rattle.blocks.specs.Cells.{Cells}

-- the granule at which a cell begins, by which it is marked
abbrev pub mark_of : ℕ → ℕ → ℕ → ℕ
mark_of page class cell = PAGE_GRANULES * page + cell * (class / GRANULE_WORDS)

-- a cell of the page begins at this granule of it
pub record BeginsAt (b : Cells) (granule cell : ℕ) : Type 0 where
  pub inside : cell < length b.taken
  pub at : cell * (b.class / GRANULE_WORDS) ≡ granule

-- The row has of the cells that begin before this granule of the page exactly the marked ones, and no others.
pub record HasMarked (marks : List Bool) (page : ℕ) (b : Cells) (from : ℕ) (live : List Bool) : Type 0 where
  pub size : length live ≡ length b.taken
  pub below : (i : ℕ) → i < length b.taken → i * (b.class / GRANULE_WORDS) < from → slice_index_or live i false ≡ slice_index_or marks (mark_of page b.class i) false
  pub rest : (i : ℕ) → from ≤ i * (b.class / GRANULE_WORDS) → slice_index_or live i false ≡ false

-- Of the cells exactly the marked ones are still allocated.
pub record SweepsCells (marks : List Bool) (page : ℕ) (b b' : Cells) : Type 0 where
  pub class : b'.class ≡ b.class
  pub kind : b'.kind ≡ b.kind
  pub row : length b'.taken ≡ length b.taken
  pub marked : (i : ℕ) → Has marks (mark_of page b.class i) → slice_index_or b'.taken i false ≡ slice_index_or b.taken i false
  pub dead : (i : ℕ) → slice_index_or marks (mark_of page b.class i) false ≡ false → slice_index_or b'.taken i false ≡ false
