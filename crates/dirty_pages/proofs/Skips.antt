-- The lowest bit of a row of words, where words of 0 are passed over.
use Rattle.std.proofs.Common.{◌≡◌, ℕ, ◌+◌, ◌*◌, ◌/◌, ◌%◌, ◌^◌, ◌<◌, true, false, ◌==◌, List, length, get_or, sym, ap, ◌∙◌, subst, arith, ⊎_elim}
use Rattle.std.specs.Int.{bit_at, trailing_zeros, w64}
use Rattle.std.proofs.lemmas.Bool.{cases_lt}
use Rattle.std.proofs.lemmas.List.{get_or_read}
use Rattle.std.proofs.lemmas.Nat.Bits.{bit_at-trailing_zeros, bit_at_above}
use Rattle.words.specs.Bits.{IsFirstBit, IsFirstBitOf, HasNoBit}
use Rattle.words.proofs.Scans.{IsScanned, scan_start, scan_more, scan_found}
use Rattle.dirty_pages.specs.Summary.{AreZerosFrom, IsLeastWord}
use Rattle.dirty_pages.proofs.Pages.{clear_bit, bit_of}

-- the bit is in the word in which the search begins
pub skip_here : (words : List ℕ) (low i : ℕ) → low < 64 * length words → IsFirstBit (get_or words (low / 64) 0) true (low % 64) i → IsFirstBitOf words true low (64 * (low / 64) + i)
skip_here words low i lt first = scan_found words true low (low / 64) (low % 64) i (omega (arith, lt)) (scan_start words true low) first

module _ (words : List ℕ) (low : ℕ) (none : HasNoBit (get_or words (low / 64) 0) true (low % 64)) where
  past : IsScanned words true low (low / 64 + 1) 0
  past = scan_more words true low (low / 64) (low % 64) (scan_start words true low) none

  -- a word past it is the first that isn't 0
  module _ (k x : ℕ) (first : IsLeastWord words (low / 64 + 1) k) (is : x ≡ get_or words k 0) (fits : x < 2 ^ 64) where
    pub skip_found : IsFirstBitOf words true low (64 * k + trailing_zeros w64 x)
    skip_found =
        let t : ℕ = trailing_zeros w64 x in
        let some : 0 < x = (let ne = first.some in omega (arith, ne, is)) in
        let found = bit_at-trailing_zeros w64 x some fits in
        let few : t < 64 = ⊎_elim (λ h. h) (λ far. let z : bit_at x t ≡ 0 = bit_at_above x 64 t fits far in let one = found.1 in absurd (omega (arith, z, one))) (cases_lt t 64) in
        let inside = first.inside in let from = first.from in
        let rest : (64 * k + t) % 64 ≡ t = omega (arith, few) in
        record {
          inside = omega (arith, inside, few);
          from = omega (arith, from);
          here = λ _. bit_of words k (64 * k + t) true (omega (arith, few)) (ap (λ w. bit_at w ((64 * k + t) % 64) == 1) (sym is) ∙ ap (λ p. bit_at x p == 1) rest ∙ ap (λ b. b == 1) found.1);
          least = λ i a b. ⊎_elim
              (λ (early : i < 64 * (low / 64 + 1)). past.none i a (omega (arith, early)))
              (λ late. ⊎_elim
              (λ (lt : i / 64 < k). clear_bit words i (first.least (i / 64) (omega (arith, late)) lt))
              (λ ge. bit_of words k i false (omega (arith, ge, b, few)) (ap (λ w. bit_at w (i % 64) == 1) (sym is) ∙ ap (λ n. n == 1) (found.2 (i % 64) (omega (arith, ge, b, few)))))
              (cases_lt (i / 64) k))
              (cases_lt i (64 * (low / 64 + 1)));
        }

  pub skip_none : low < 64 * length words → AreZerosFrom words (low / 64 + 1) → IsFirstBitOf words true low (64 * length words)
  skip_none lt zeros = record {
    inside = omega arith;
    from = omega (arith, lt);
    here = λ h. absurd (omega (arith, h));
    least = λ i a b. ⊎_elim
        (λ (early : i < 64 * (low / 64 + 1)). past.none i a (omega (arith, early)))
        (λ late. clear_bit words i (zeros.zero (i / 64) (omega (arith, late))))
        (cases_lt i (64 * (low / 64 + 1)));
  }

-- the same of words as they were read
pub read_here : (words : List ℕ) (low i x : ℕ) → low < 64 * length words → x ≡ get_or words (low / 64) x → IsFirstBit x true (low % 64) i → IsFirstBitOf words true low (64 * (low / 64) + i)
read_here words low i x lt is first =
    skip_here words low i lt (subst (λ w. IsFirstBit w true (low % 64) i) (get_or_read words (low / 64) x (omega (arith, lt)) is 0) first)

pub read_found : (words : List ℕ) (low k x y : ℕ) → low < 64 * length words → x ≡ get_or words (low / 64) x → HasNoBit x true (low % 64) → IsLeastWord words (low / 64 + 1) k → y ≡ get_or words k 0 → y < 2 ^ 64
    → IsFirstBitOf words true low (64 * k + trailing_zeros w64 y)
read_found words low k x y lt is none first at fits =
    skip_found words low (subst (λ w. HasNoBit w true (low % 64)) (get_or_read words (low / 64) x (omega (arith, lt)) is 0) none) k y first at fits

pub read_none : (words : List ℕ) (low x : ℕ) → low < 64 * length words → x ≡ get_or words (low / 64) x → HasNoBit x true (low % 64) → AreZerosFrom words (low / 64 + 1) → IsFirstBitOf words true low (64 * length words)
read_none words low x lt is none zeros =
    skip_none words low (subst (λ w. HasNoBit w true (low % 64)) (get_or_read words (low / 64) x (omega (arith, lt)) is 0) none) lt zeros

pub ruleset skips = (read_here, read_found, read_none)
