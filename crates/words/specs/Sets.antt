-- A row of bits is a set: the places of the bits that are set.
use Rattle.std.specs.Prelude.{◌≡◌, ◌≢◌, ◌↔◌, ◌⊎◌, ℕ, ◌<◌, ◌≤◌, Bool, true, false, List, length, slice_set}
use Rattle.words.specs.Bits.{Has, IsClear, IsFirstFrom, IsEmptyFrom}

-- members are places of the row
abbrev pub MembersAreInside : Type 0
MembersAreInside = (row : List Bool) (k : ℕ) → Has row k → k < length row

-- a bit that is set joins the members
abbrev pub SetAddsOne : Type 0
SetAddsOne = (row : List Bool) (i k : ℕ) → i < length row → Has (slice_set row i true) k ↔ ((k ≡ i) ⊎ Has row k)

-- a bit that is cleared leaves them
abbrev pub ClearTakesOne : Type 0
ClearTakesOne = (row : List Bool) (i k : ℕ) → i < length row → Has (slice_set row i false) k ↔ ((k ≢ i) × Has row k)

-- a clear row has no member
abbrev pub ClearHasNone : Type 0
ClearHasNone = (row : List Bool) (n : ℕ) → IsClear row n → (k : ℕ) → Has row k → ⊥

-- The first member from a place on is the least one there, and where there is none, all members lie before that place.
pub record FirstIsLeast : Type 0 where
  pub first : (row : List Bool) (low i : ℕ) → IsFirstFrom row low i → Has row i × (low ≤ i)
  pub least : (row : List Bool) (low i : ℕ) → IsFirstFrom row low i → (k : ℕ) → Has row k → low ≤ k → i ≤ k
  pub none : (row : List Bool) (low : ℕ) → IsEmptyFrom row low → (k : ℕ) → Has row k → k < low
