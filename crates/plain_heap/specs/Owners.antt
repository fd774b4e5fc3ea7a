-- Which object each word of the heap belongs to, which begins at `origin`.
use Rattle.std.specs.Prelude.{◌≡◌, ℕ, ◌≤◌, ◌<◌, List, All, length, slice_index}
use Rattle.links.specs.Leaving.{word_index}
use Rattle.plain_heap.specs.declared.extent.Extent.{Extent}
use Rattle.plain_heap.specs.Reached.{PointsIntoNth}

-- Each word of an object has the index of that object in the row, and each object has a word. What the other words have is
-- open.
pub record AreOwners (origin : ℕ) (row : List Extent) (owners : List ℕ) : Type 0 where
  pub some : All (λ e. 0 < e.length) row
  pub start : (w i : ℕ) → PointsIntoNth row w i → origin ≤ w
  pub within : (w i : ℕ) → PointsIntoNth row w i → word_index origin w < length owners
  pub owned : (w i : ℕ) → PointsIntoNth row w i → slice_index owners (word_index origin w) ≡ i

-- The same, but the words of the object of one index in the row have anything.
pub record AreOwnersBut (origin index : ℕ) (row : List Extent) (owners : List ℕ) : Type 0 where
  pub owned : (w i : ℕ) → (i ≡ index → ⊥) → PointsIntoNth row w i → slice_index owners (word_index origin w) ≡ i
