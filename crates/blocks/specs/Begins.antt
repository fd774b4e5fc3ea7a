-- At which granules of a page cells begin, and which cells a row of granules has.
use Rattle.std.specs.Prelude.{◌≡◌, ℕ, ◌+◌, ◌-◌, ◌*◌, ◌/◌, ◌%◌, ◌<◌, ◌==◌, ◌&&◌, nat_lt, Bool, false, true, List, length, map, slice_index_or}
use Rattle.std.specs.Int.{bit_at}
use Rattle.std.specs.List.{range_with_len}
use Rattle.words.specs.declared.limits.TheConstants.{GRANULE_WORDS, PAGE_GRANULES, PAGE_WORDS}
use Rattle.words.specs.Bits.{Has}

-- a cell of the class begins at the granule of the page
abbrev pub begins : ℕ → ℕ → Bool
begins class granule = (granule % (class / GRANULE_WORDS) == 0) && nat_lt (granule / (class / GRANULE_WORDS)) (PAGE_WORDS / class)

-- the cells of the class whose first granules are members of the row, as the row of the cells
unfoldable pub begun : List Bool → ℕ → List Bool
begun row class = map (λ i. slice_index_or row (i * (class / GRANULE_WORDS)) false) (range_with_len 0 (PAGE_WORDS / class))

-- The row is one of a page's granules, each member of which is the first granule of a cell.
pub record AreBegins (row : List Bool) (class : ℕ) : Type 0 where
  pub size : length row ≡ PAGE_GRANULES
  pub only : (granule : ℕ) → Has row granule → (i : ℕ) × (i < PAGE_WORDS / class) × (i * (class / GRANULE_WORDS) ≡ granule)

-- The word j of a row of granules has the first granules of the cells that aren't in this row, each of so many granules, and no others.
pub record IsFreeWord (cells : List Bool) (granules j word : ℕ) : Type 0 where
  pub cell : (i : ℕ) → i < length cells → i * granules / 64 ≡ j → slice_index_or cells i true ≡ (bit_at word (i * granules % 64) == 0)
  pub only : (b : ℕ) → b < 64 → bit_at word b ≡ 1 → (i : ℕ) × (i < length cells) × (i * granules ≡ 64 * j + b)

-- the first cell that begins at the granule or behind it
abbrev pub first_cell_from : ℕ → ℕ → ℕ
first_cell_from granules granule = (granule + granules - 1) / granules
