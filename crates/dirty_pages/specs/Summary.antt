-- A row of words, and a row of bits that says which of them aren't 0.
use Rattle.std.specs.Prelude.{◌≡◌, ◌≢◌, ℕ, max, ◌<◌, ◌≤◌, Bool, true, false, List, length, slice_index_or}
use Rattle.std.specs.Int.{bit_at}

-- bit j of the summary says whether word j isn't 0
pub record IsSummary (words : List ℕ) (summary : List Bool) : Type 0 where
  pub size : length summary ≡ length words
  pub zero : (j : ℕ) → slice_index_or words j 0 ≡ 0 → slice_index_or summary j false ≡ false
  pub some : (j : ℕ) → slice_index_or words j 0 ≢ 0 → slice_index_or summary j false ≡ true

-- n words, each of them 0
pub record AreZeros (words : List ℕ) (n : ℕ) : Type 0 where
  pub size : length words ≡ n
  pub zero : (j : ℕ) → slice_index_or words j 0 ≡ 0

-- every word from `from` on is 0
pub record AreZerosFrom (words : List ℕ) (from : ℕ) : Type 0 where
  pub zero : (j : ℕ) → from ≤ j → slice_index_or words j 0 ≡ 0

-- the words that aren't 0 are among the first
pub record AreUsed (words : List ℕ) (used : ℕ) : Type 0 where
  pub inside : used ≤ length words
  pub rest : AreZerosFrom words used

-- j is the least place from `low` on of a word that isn't 0
pub record IsLeastWord (words : List ℕ) (low j : ℕ) : Type 0 where
  pub inside : j < length words
  pub from : low ≤ j
  pub some : slice_index_or words j 0 ≢ 0
  pub least : (k : ℕ) → low ≤ k → k < j → slice_index_or words k 0 ≡ 0

-- every word from `from` on and below `end` is 0
pub record AreZerosBetween (words : List ℕ) (from end : ℕ) : Type 0 where
  pub zero : (j : ℕ) → from ≤ j → j < end → slice_index_or words j 0 ≡ 0

-- j is the least such place, and it is below `end`
pub record IsLeastWordBelow (words : List ℕ) (low end j : ℕ) : Type 0 where
  pub first : IsLeastWord words low j
  pub below : j < end

-- a bit of the words is set where it is set in one row or the other
pub record IsOr (old more new : List ℕ) : Type 0 where
  pub size : length new ≡ length old
  pub each : (j k : ℕ) → bit_at (slice_index_or new j 0) k ≡ max (bit_at (slice_index_or old j 0) k) (bit_at (slice_index_or more j 0) k)
