-- Where so many ones in a row begin, in a row of bits that is kept in words.
use Rattle.std.specs.Prelude.{◌≡◌, ℕ, ◌+◌, ◌*◌, ◌<◌, ◌≤◌, List, true, ◌==◌, length}
use Rattle.std.specs.Int.{bit_at}
use Rattle.words.specs.Bits.{bit}

-- the bits of a number are those of the word j and of the next
pub record IsPair (words : List ℕ) (j both : ℕ) : Type 0 where
  pub bits : (p : ℕ) → p < 128 → (bit_at both p == 1) ≡ bit words (64 * j + p)

-- the ones of y are the bits of a number at which n ones begin
pub record AreShrunk (both n y : ℕ) : Type 0 where
  pub one : (i : ℕ) → bit_at y i ≡ 1 → (k : ℕ) → k < n → bit_at both (i + k) ≡ 1
  pub all : (i : ℕ) → ((k : ℕ) → k < n → bit_at both (i + k) ≡ 1) → bit_at y i ≡ 1

-- n ones begin at the bit i
abbrev pub IsStart : List ℕ → ℕ → ℕ → Type 0
IsStart words n i = (k : ℕ) → k < n → bit words (i + k) ≡ true

-- the ones of y are the bits of the word j at which n ones begin
pub record AreStarts (words : List ℕ) (j n y : ℕ) : Type 0 where
  pub one : (i : ℕ) → i < 64 → bit_at y i ≡ 1 → IsStart words n (64 * j + i)
  pub all : (i : ℕ) → i < 64 → IsStart words n (64 * j + i) → bit_at y i ≡ 1

-- in no word from `low` on and before j do two ones begin
pub record IsNextPair (words : List ℕ) (low j : ℕ) : Type 0 where
  pub inside : j < length words
  pub from : low ≤ j
  pub least : (i : ℕ) → 64 * low ≤ i → i < 64 * j → IsStart words 2 i → ⊥

-- i is the lowest bit from `low` on where n ones begin, or the number of all bits
pub record IsFirstStart (words : List ℕ) (n low i : ℕ) : Type 0 where
  pub inside : i ≤ 64 * length words
  pub from : low ≤ i
  pub here : i < 64 * length words → IsStart words n i
  pub least : (k : ℕ) → low ≤ k → k < i → IsStart words n k → ⊥
