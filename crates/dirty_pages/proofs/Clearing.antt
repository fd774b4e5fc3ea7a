-- All words become 0: those that may not be are the first ones.
use Rattle.std.proofs.Common.{◌≡◌, ℕ, max, ◌+◌, ◌<◌, Bool, List, length, set, ◌∙◌, ⊎_elim, length-set, arith, get_or-set_same, get_or-set_other}
use Rattle.std.proofs.lemmas.Bool.{cases_lt, cases_eq}
use Rattle.words.specs.Bits.{IsEmptyFrom, IsZeroBelow}
use Rattle.dirty_pages.specs.Summary.{AreZeros, AreUsed, IsSummary}

pub none_used : (words : List ℕ) (n : ℕ) → AreZeros words n → AreUsed words 0
none_used words n zeros = record { inside = omega arith; rest = record { zero = λ j past. zeros.zero j } }

pub used_zero : (words : List ℕ) (used j word : ℕ) → j < length words → AreUsed words used → word ≡ 0 → AreUsed (set words j word) used
used_zero words used j word lt are e = record {
  inside = let inside = are.inside in omega (arith, inside, length-set words j word);
  rest = record {
    zero = λ k past. ⊎_elim
        (λ (at : k ≡ j). (rw at (get_or-set_same words j word 0 lt)) ∙ e)
        (λ ne. get_or-set_other words j k word 0 ne ∙ are.rest.zero k past)
        (cases_eq k j);
  };
}

pub used_some : (words : List ℕ) (used j word : ℕ) → j < length words → AreUsed words used → AreUsed (set words j word) (max used (j + 1))
used_some words used j word lt are = record {
  inside = let inside = are.inside in omega (arith, inside, lt, length-set words j word);
  rest = record { zero = λ k past. get_or-set_other words j k word 0 (λ e. absurd (omega (arith, past, e))) ∙ are.rest.zero k (omega (arith, past)) };
}

pub none_named : (words : List ℕ) (summary : List Bool) (used : ℕ) → IsSummary words summary → AreUsed words used → IsEmptyFrom summary used
none_named words summary used s are k past inside = s.zero k (are.rest.zero k past)

pub all_zero : (old new : List ℕ) (used : ℕ) → AreUsed old used → IsZeroBelow old new used → AreZeros new (length old)
all_zero old new used are zeroed = record { size = zeroed.size; zero = λ j. ⊎_elim (zeroed.zero j) (λ past. zeroed.rest j past ∙ are.rest.zero j past) (cases_lt j used) }

pub ruleset clearing = (all_zero, none_used, used_zero, used_some, none_named)
