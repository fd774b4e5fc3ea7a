-- Each word of one row becomes the or of both rows' words.
use Rattle.std.proofs.Common.{◌≡◌, ℕ, zero, suc, max, ◌+◌, ◌/◌, ◌%◌, ◌<◌, ◌≤◌, ◌⊎◌, List, true, false, ◌==◌, length, get_or, set, refl, sym, ap, ◌∙◌, inl, inr, ⊎_elim, length-set, arith, get_or-set_same, get_or-set_other}
use Rattle.std.specs.Int.{bit_at}
use Rattle.std.specs.Int.RustNames.{bit_or}
use Rattle.std.proofs.lemmas.Bool.{cases_lt, cases_eq}
use Rattle.std.proofs.lemmas.Nat.Bits.{bit_at_or, bit_at-zero, bit_at-lt}
use Rattle.words.specs.Bits.{bit, bits, Has}
use Rattle.words.proofs.Rows.{length-bits, get_or-bits}
use Rattle.words.proofs.Sets.{has_inside}
use Rattle.dirty_pages.specs.Summary.{AreZerosFrom, IsLeastWord, IsOr}

-- the words below `from` have become the or of both
pub record Ors (from : ℕ) (before more row : List ℕ) : Type 0 where
  pub size : length row ≡ length before
  pub done : (j k : ℕ) → j < from → bit_at (get_or row j 0) k ≡ max (bit_at (get_or before j 0) k) (bit_at (get_or more j 0) k)
  pub rest : (j : ℕ) → from ≤ j → get_or row j 0 ≡ get_or before j 0

pub ors_none : (old more : List ℕ) → Ors 0 old more old
ors_none old more = record { size = refl; done = λ j k lt. absurd (omega (arith, lt)); rest = λ j past. refl }

-- words that weren't looked at stay as they are where the other row's are 0
or_zero : (old more row : List ℕ) (j k : ℕ) → get_or row j 0 ≡ get_or old j 0 → get_or more j 0 ≡ 0 → bit_at (get_or row j 0) k ≡ max (bit_at (get_or old j 0) k) (bit_at (get_or more j 0) k)
or_zero old more row j k same none =
    let nothing : bit_at (get_or more j 0) k ≡ 0 = ap (λ w. bit_at w k) none ∙ bit_at-zero k in
    let kept : bit_at (get_or row j 0) k ≡ bit_at (get_or old j 0) k = ap (λ w. bit_at w k) same in
    omega (arith, nothing, kept)

pub ors_step : (from j word : ℕ) (old more row : List ℕ) → length more ≡ length old → Ors from old more row → IsLeastWord more from j → word ≡ bit_or (get_or row j 0) (get_or more j 0) → Ors (j + 1) old more (set row j word)
ors_step from j word old more row both_size o first is =
    let inside = first.inside in let past = first.from in let size = o.size in record {
      size = length-set row j word ∙ o.size;
      done = λ i k lt. ⊎_elim
          (λ (e : i ≡ j).
          let now : get_or (set row j word) i 0 ≡ word = ap (λ n. get_or (set row j word) n 0) e ∙ get_or-set_same row j word 0 (omega (arith, size, inside, both_size)) in
          let both : get_or row j 0 ≡ get_or old i 0 = o.rest j past ∙ ap (λ n. get_or old n 0) (sym e) in
          let a : bit_at (get_or (set row j word) i 0) k ≡ bit_at (bit_or (get_or row j 0) (get_or more j 0)) k = ap (λ w. bit_at w k) (now ∙ is) in
          let b = bit_at_or (get_or row j 0) (get_or more j 0) k in
          let c : bit_at (get_or row j 0) k ≡ bit_at (get_or old i 0) k = ap (λ w. bit_at w k) both in
          let d : bit_at (get_or more j 0) k ≡ bit_at (get_or more i 0) k = ap (λ n. bit_at (get_or more n 0) k) (sym e) in
          omega (arith, a, b, c, d))
          (λ ne.
          ap (λ w. bit_at w k) (get_or-set_other row j i word 0 ne)
          ∙ ⊎_elim (λ low. o.done i k low) (λ high. or_zero old more row i k (o.rest i high) (first.least i high (omega (arith, lt, ne)))) (cases_lt i from))
          (cases_eq i j);
      rest = λ i high. get_or-set_other row j i word 0 (λ e. absurd (omega (arith, high, e))) ∙ o.rest i (omega (arith, high, past));
    }

pub ors_all : (from : ℕ) (old more row : List ℕ) → Ors from old more row → AreZerosFrom more from → IsOr old more row
ors_all from old more row o none = record {
  size = o.size;
  each = λ j k. ⊎_elim (λ low. o.done j k low) (λ high. or_zero old more row j k (o.rest j high) (none.zero j high)) (cases_lt j from);
}

-- ---- the same of the rows' bits
max_one : (a b : ℕ) → a < 2 → b < 2 → (max a b == 1) ≡ true → ((a == 1) ≡ true) ⊎ ((b == 1) ≡ true)
max_one zero zero u v e = inl e
max_one zero (suc zero) u v e = inr refl
max_one (suc zero) b u v e = inl refl
max_one (suc (suc a)) b u v e = absurd (omega (arith, u))
max_one zero (suc (suc b)) u v e = absurd (omega (arith, v))

one_max : (a b : ℕ) → a < 2 → b < 2 → ((a == 1) ≡ true) ⊎ ((b == 1) ≡ true) → (max a b == 1) ≡ true
one_max zero zero u v e = ⊎_elim (λ h. h) (λ h. h) e
one_max zero (suc zero) u v e = refl
one_max (suc zero) zero u v e = refl
one_max (suc zero) (suc zero) u v e = refl
one_max (suc (suc a)) b u v e = absurd (omega (arith, u))
one_max a (suc (suc b)) u v e = absurd (omega (arith, v))

or_bit : (old more new : List ℕ) (p : ℕ) → IsOr old more new → bit new p ≡ true → (bit old p ≡ true) ⊎ (bit more p ≡ true)
unfolding bit
or_bit old more new p o is =
    max_one (bit_at (get_or old (p / 64) 0) (p % 64)) (bit_at (get_or more (p / 64) 0) (p % 64)) (bit_at-lt (get_or old (p / 64) 0) (p % 64)) (bit_at-lt (get_or more (p / 64) 0) (p % 64))
    (ap (λ b. b == 1) (sym (o.each (p / 64) (p % 64))) ∙ is)

bit_or_is : (old more new : List ℕ) (p : ℕ) → IsOr old more new → (bit old p ≡ true) ⊎ (bit more p ≡ true) → bit new p ≡ true
unfolding bit
bit_or_is old more new p o either =
    ap (λ b. b == 1) (o.each (p / 64) (p % 64))
    ∙ one_max (bit_at (get_or old (p / 64) 0) (p % 64)) (bit_at (get_or more (p / 64) 0) (p % 64)) (bit_at-lt (get_or old (p / 64) 0) (p % 64)) (bit_at-lt (get_or more (p / 64) 0) (p % 64)) either

has_bit : (words : List ℕ) (n p : ℕ) → Has (bits words n) p → (p < n) × (bit words p ≡ true)
has_bit words n p has =
    let inside = has_inside (bits words n) p has in
    let lt : p < n = omega (arith, inside, length-bits words n) in
    (lt, sym (get_or-bits words n p false lt) ∙ has)

bit_has : (words : List ℕ) (n p : ℕ) → p < n → bit words p ≡ true → Has (bits words n) p
bit_has words n p lt is = get_or-bits words n p false lt ∙ is

module _ (old more new : List ℕ) (n m : ℕ) (same : length (bits more m) ≡ length (bits old n)) (o : IsOr old more new) where
  equal : m ≡ n
  equal = sym (length-bits more m) ∙ same ∙ length-bits old n

  pub or_each : (p : ℕ) → Has (bits new n) p → Has (bits old n) p ⊎ Has (bits more m) p
  or_each p has =
      let here = has_bit new n p has in let lt = here.0 in let e = equal in
      ⊎_elim (λ a. inl (bit_has old n p lt a)) (λ b. inr (bit_has more m p (omega (arith, lt, e)) b)) (or_bit old more new p o here.1)

  pub or_old : (p : ℕ) → Has (bits old n) p → Has (bits new n) p
  or_old p has = let here = has_bit old n p has in let lt = here.0 in bit_has new n p lt (bit_or_is old more new p o (inl here.1))

  pub or_more : (p : ℕ) → Has (bits more m) p → Has (bits new n) p
  or_more p has =
      let here = has_bit more m p has in let lt = here.0 in let e = equal in
      bit_has new n p (omega (arith, lt, e)) (bit_or_is old more new p o (inr here.1))

pub ruleset adding = (ors_none, ors_step, ors_all)
