-- The members of a row of bits.
use Rattle.std.proofs.Common.{◌≡◌, ◌≢◌, ℕ, ◌<◌, ◌≤◌, ◌⊎◌, Bool, true, false, List, length, get_or, set, sym, ap, ◌∙◌, inl, inr, ⊎_elim, get_or-set_same, get_or-set_other}
use Rattle.std.specs.Prelude.{◌↔◌}
use Rattle.std.proofs.lemmas.Bool.{cases_lt, cases_eq, true≢false}
use Rattle.std.proofs.lemmas.List.{get_or_past}
use Rattle.words.specs.Bits.{Has, IsFirstFrom, IsEmptyFrom}

pub has_inside : (row : List Bool) (k : ℕ) → Has row k → k < length row
has_inside row k has = ⊎_elim (λ lt. lt) (λ past. absurd (true≢false (sym has ∙ get_or_past row k false past))) (cases_lt k (length row))

pub has_set : (row : List Bool) (i k : ℕ) → i < length row → Has (set row i true) k ↔ ((k ≡ i) ⊎ Has row k)
has_set row i k lt = (
  λ has. ⊎_elim (λ e. inl e) (λ ne. inr (sym (get_or-set_other row i k true false ne) ∙ has)) (cases_eq k i),
  λ either. ⊎_elim (λ e. ap (λ j. get_or (set row i true) j false) e ∙ get_or-set_same row i true false lt)
      (λ has. ⊎_elim (λ e. ap (λ j. get_or (set row i true) j false) e ∙ get_or-set_same row i true false lt) (λ ne. get_or-set_other row i k true false ne ∙ has) (cases_eq k i))
      either,
)

pub has_cleared : (row : List Bool) (i k : ℕ) → i < length row → Has (set row i false) k ↔ ((k ≢ i) × Has row k)
has_cleared row i k lt = (
  λ has.
      let ne : k ≢ i = λ e. true≢false (sym has ∙ ap (λ j. get_or (set row i false) j false) e ∙ get_or-set_same row i false false lt) in
      (ne, sym (get_or-set_other row i k false false ne) ∙ has),
  λ both. get_or-set_other row i k false false both.0 ∙ both.1,
)

-- a member is not before the first one from a place on
pub first_least : (row : List Bool) (low i : ℕ) → IsFirstFrom row low i → (k : ℕ) → Has row k → low ≤ k → i ≤ k
first_least row low i first k has from = ⊎_elim (λ lt. absurd (true≢false (sym has ∙ first.least k from lt))) (λ ge. ge) (cases_lt k i)

pub none_before : (row : List Bool) (low : ℕ) → IsEmptyFrom row low → (k : ℕ) → Has row k → k < low
none_before row low empty k has = ⊎_elim (λ lt. lt) (λ from. absurd (true≢false (sym has ∙ empty k from (has_inside row k has)))) (cases_lt k low)
