-- Runs of free pages. In the row of a pool, true is a free page.
use Rattle.std.specs.Prelude.{◌≡◌, ℕ, ◌+◌, ◌<◌, ◌≤◌, ◌⊎◌, Bool, true, false, List, length, slice_index_or}
use Rattle.std.specs.Int.{bit_at}

-- n pages from the page i on are free
pub record IsFreeRun (row : List Bool) (i n : ℕ) : Type 0 where
  pub inside : i + n ≤ length row
  pub free : (k : ℕ) → i ≤ k → k < i + n → slice_index_or row k false ≡ true

-- the lowest of these runs
pub record IsFirstFreeRun (row : List Bool) (i n : ℕ) : Type 0 where
  pub run : IsFreeRun row i n
  pub lowest : (j : ℕ) → j < i → IsFreeRun row j n → ⊥

-- no n consecutive pages are free
abbrev pub HasNoFreeRun : List Bool → ℕ → Type 0
HasNoFreeRun row n = (i : ℕ) → IsFreeRun row i n → ⊥

-- the lowest of these runs that begins at the page low or above
pub record IsFirstFreeRunFrom (row : List Bool) (low i n : ℕ) : Type 0 where
  pub from : low ≤ i
  pub run : IsFreeRun row i n
  pub lowest : (j : ℕ) → low ≤ j → j < i → IsFreeRun row j n → ⊥

-- no n consecutive pages are free from the page low on
abbrev pub HasNoFreeRunFrom : List Bool → ℕ → ℕ → Type 0
HasNoFreeRunFrom row low n = (i : ℕ) → low ≤ i → IsFreeRun row i n → ⊥

-- of the pages from i on, n of them, those that the row has have become b, and the others are as they were
pub record IsFilled (old new : List Bool) (i n : ℕ) (b : Bool) : Type 0 where
  pub size : length new ≡ length old
  pub inside : (k : ℕ) → i ≤ k → k < i + n → k < length old → slice_index_or new k false ≡ b
  pub others : (k : ℕ) → (k < i) ⊎ (i + n ≤ k) → slice_index_or new k false ≡ slice_index_or old k false

-- no page below `low` is free
pub record AreUsedBelow (row : List Bool) (low : ℕ) : Type 0 where
  pub inside : low ≤ length row
  pub used : (k : ℕ) → k < low → slice_index_or row k false ≡ false

-- n pages, each of them free
pub record AreAllFree (row : List Bool) (n : ℕ) : Type 0 where
  pub size : length row ≡ n
  pub free : (k : ℕ) → k < n → slice_index_or row k false ≡ true

-- the run of free pages that has the page `first` ends before the page `end`
pub record IsRunEnd (row : List Bool) (first end : ℕ) : Type 0 where
  pub past : first < end
  pub inside : end ≤ length row
  pub free : (k : ℕ) → first ≤ k → k < end → slice_index_or row k false ≡ true
  pub stop : end < length row → slice_index_or row end false ≡ false

-- the ones of a word are n bits from the bit low on
pub record IsMask (word low n : ℕ) : Type 0 where
  pub inside : (k : ℕ) → low ≤ k → k < low + n → bit_at word k ≡ 1
  pub others : (k : ℕ) → (k < low) ⊎ (low + n ≤ k) → bit_at word k ≡ 0
