-- How many bits of words are set, where words of 0 are passed over.
use Rattle.std.proofs.Common.{◌≡◌, ℕ, ◌+◌, ◌-◌, ◌*◌, ◌/◌, ◌^◌, ◌<◌, ◌≤◌, false, List, get_or, sym, ap, ◌∙◌, arith}
use Rattle.std.specs.Int.RustNames.{count_ones}
use Rattle.words.specs.Bits.{bits, members_between, IsCount}
use Rattle.words.proofs.Rows.{length-bits, get_or-bits}
use Rattle.words.proofs.Counts.{count_small, members_same, none_counted, word_counted}
use Rattle.dirty_pages.specs.Summary.{AreZerosBetween, AreZerosFrom, IsLeastWord, IsLeastWordBelow}
use Rattle.dirty_pages.proofs.Pages.{clear_bit}

-- words of 0 add nothing
zeros_counted : (words : List ℕ) (from j count : ℕ) → IsCount words 0 (64 * from) count → from ≤ j → ((k : ℕ) → from ≤ k → k < j → get_or words k 0 ≡ 0) → IsCount words 0 (64 * j) count
zeros_counted words from j count before order zero = record {
  of_row = λ n inside.
      let rest : ℕ = 64 * (j - from) in
      let whole : 64 * from + 64 * (j - from) ≡ 64 * j = omega (arith, order) in
      before.of_row n (omega (arith, order, inside))
      ∙ sym (members_same (bits words n) 0 (64 * from) (64 * (j - from)) (omega arith) (let len = length-bits words n in omega (arith, len, whole, inside))
      (λ k a b. get_or-bits words n k false (omega (arith, b, whole, inside)) ∙ clear_bit words k (zero (k / 64) (omega (arith, a)) (omega (arith, b, whole)))))
      ∙ ap (members_between (bits words n) 0) whole;
}

pub least_counted : (words : List ℕ) (from end j count w : ℕ) → IsCount words 0 (64 * from) count → IsLeastWordBelow words from end j → w ≡ get_or words j 0 → w < 2 ^ 64 → IsCount words 0 (64 * (j + 1)) (count + count_ones w)
least_counted words from end j count w before is at small = word_counted words 0 j count w (zeros_counted words from j count before is.first.from is.first.least) (omega arith) at small

pub end_counted : (words : List ℕ) (from end count : ℕ) → IsCount words 0 (64 * from) count → from ≤ end → AreZerosBetween words from end → IsCount words 0 (64 * end) count
end_counted words from end count before order zeros = zeros_counted words from end count before order zeros.zero

pub nothing_counted : (words : List ℕ) → IsCount words 0 0 0
nothing_counted words = none_counted words 0 (omega arith)

pub ruleset counting = (nothing_counted, least_counted, end_counted, count_small)

-- no word below the end is left
pub zeros_between : (words : List ℕ) (from end : ℕ) → AreZerosFrom words from → AreZerosBetween words from end
zeros_between words from end zeros = record { zero = λ j past below. zeros.zero j past }

pub least_past : (words : List ℕ) (from end j : ℕ) → IsLeastWord words from j → end ≤ j → AreZerosBetween words from end
least_past words from end j first past = record { zero = λ k from_low below. first.least k from_low (omega (arith, below, past)) }

pub least_below : (words : List ℕ) (from end j : ℕ) → IsLeastWord words from j → j < end → IsLeastWordBelow words from end j
least_below words from end j first lt = record { first = first; below = lt }

pub ruleset between = (zeros_between, least_past, least_below)
