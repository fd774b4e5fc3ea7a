-- Rows of bits over the pages, and the lowest of their members.
use Rattle.std.specs.Prelude.{◌≡◌, ℕ, ◌<◌, ◌≤◌, Bool, true, false, List, length, slice_index_or}

-- The place is that of the row's lowest member, or its number of bits where it has none.
pub record IsLowest (row : List Bool) (lowest : ℕ) : Type 0 where
  pub inside : lowest ≤ length row
  pub below : (i : ℕ) → i < lowest → slice_index_or row i false ≡ false
  pub member : lowest < length row → slice_index_or row lowest false ≡ true
