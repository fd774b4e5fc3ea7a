-- The pages of a row of words.
use Rattle.std.proofs.Common.{◌≡◌, ℕ, ◌/◌, ◌%◌, Bool, true, false, ◌==◌, List, get_or, set, sym, ap, ◌∙◌, arith, length-set, ⊎_elim}
use Rattle.std.specs.Int.{bit_at}
use Rattle.std.proofs.lemmas.Bool.{cases_lt}
use Rattle.std.proofs.lemmas.List.{get_or_past, set-get_or}
use Rattle.std.proofs.lemmas.Nat.Bits.{bit_at-zero}
use Rattle.words.specs.Bits.{bit, bits, IsClear}
use Rattle.words.proofs.Rows.{length-bits, get_or-bits, bits_set_at, bits_cleared_at, bit_read_at}
use Rattle.words.proofs.Counts.{row_counted}
use Rattle.dirty_pages.specs.Summary.{AreZeros}

-- a bit of a word of 0
pub clear_bit : (words : List ℕ) (k : ℕ) → get_or words (k / 64) 0 ≡ 0 → bit words k ≡ false
unfolding bit
clear_bit words k e = ap (λ w. bit_at w (k % 64) == 1) e ∙ ap (λ b. b == 1) (bit_at-zero (k % 64))

-- a bit of the word j
pub bit_of : (words : List ℕ) (j k : ℕ) (value : Bool) → k / 64 ≡ j → (bit_at (get_or words j 0) (k % 64) == 1) ≡ value → bit words k ≡ value
unfolding bit
bit_of words j k value e has = ap (λ i. bit_at (get_or words i 0) (k % 64) == 1) e ∙ has

pub zeros_clear : (words : List ℕ) (n size : ℕ) → AreZeros words size → IsClear (bits words n) n
zeros_clear words n size z = record {
  size = length-bits words n;
  clear = λ k. ⊎_elim
      (λ lt. get_or-bits words n k false lt ∙ clear_bit words k (z.zero (k / 64)))
      (λ past. get_or_past (bits words n) k false (omega (arith, length-bits words n)))
      (cases_lt k n);
}

-- a set bit that is set again
pub set_again : (row : List Bool) (i : ℕ) → get_or row i false ≡ true → row ≡ set row i true
set_again row i is = sym (set-get_or row i false) ∙ ap (λ b. set row i b) is

pub ruleset pages = (bits_set_at, bits_cleared_at, bit_read_at, length-bits, length-set, row_counted, zeros_clear)
