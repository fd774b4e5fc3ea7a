-- A word from which the bits that are set go one after another, the highest first.
use Rattle.std.proofs.Common.{◌≡◌, ℕ, suc, ◌-◌, ◌+◌, ◌*◌, ◌/◌, ◌%◌, ◌^◌, ◌<◌, ◌≤◌, refl, sym, ap, ◌∙◌, subst, ⊎_elim, arith}
use Rattle.std.specs.Int.{bit_at, bit_not, leading_zeros, w64}
use Rattle.std.specs.Int.RustNames.{bit_and}
use Rattle.std.proofs.lemmas.Bool.{cases_eq, cases_lt}
use Rattle.std.proofs.Math.Nat.{pow-succ'}
use Rattle.std.proofs.lemmas.Nat.{and_le_l, div-add-mod', div-mul-add, mod_below, leading_top, pow_pos}
use Rattle.std.proofs.lemmas.Nat.Bits.{bit_at-zero, bit_at_above, bit_at_cat_low, bit_at_clear_other, bit_at_clear_same, same_from_bits_below}

-- the rest of a word has its bits below a place
pub record IsLowRest (word rest to : ℕ) : Type 0 where
  pub few : to ≤ 64
  pub below : (i : ℕ) → i < to → bit_at rest i ≡ bit_at word i
  pub above : (i : ℕ) → to ≤ i → i < 64 → bit_at rest i ≡ 0

pub low_all : (word : ℕ) → IsLowRest word word 64
low_all word = record { few = omega arith; below = λ i lt. refl; above = λ i ge lt. absurd (omega arith) }

-- nothing is left: no bit below the place is set
pub low_none : (word rest to : ℕ) → rest ≡ 0 → IsLowRest word rest to → (i : ℕ) → i < to → bit_at word i ≡ 0
low_none word rest to none h i lt = sym (h.below i lt) ∙ ap (λ x. bit_at x i) none ∙ bit_at-zero i

-- the highest bit that is set
pub record IsTop (rest top : ℕ) : Type 0 where
  pub inside : top < 64
  pub low : 2 ^ top ≤ rest
  pub high : rest < 2 ^ suc top

pub top_is : (rest : ℕ) → 0 < rest → rest < 2 ^ 64 → IsTop rest (63 - leading_zeros w64 rest)
top_is rest some fits =
    let t = leading_top 64 rest some fits in
    let e : t.0 ≡ 63 - leading_zeros w64 rest = (let s = t.1 in omega (arith, s)) in
    subst (IsTop rest) e (record { inside = (let s = t.1 in omega (arith, s)); low = t.2; high = t.3 })

module _ (rest top : ℕ) (fits : rest < 2 ^ 64) (h : IsTop rest top) where
  quotient : rest / 2 ^ top ≡ 1
  quotient =
      let low = h.low in let high = h.high in
      let twice : 2 ^ suc top ≡ 2 * 2 ^ top = pow-succ' 2 top in
      let is : rest ≡ 1 * 2 ^ top + (rest - 2 ^ top) = omega (arith, low) in
      ap (λ x. x / 2 ^ top) is ∙ div-mul-add 1 (2 ^ top) (rest - 2 ^ top) (omega (arith, low, high, twice))

  whole : rest ≡ 1 * 2 ^ top + rest % 2 ^ top
  whole = sym (div-add-mod' rest (2 ^ top)) ∙ ap (λ q. q * 2 ^ top + rest % 2 ^ top) quotient

  pub top_set : bit_at rest top ≡ 1
  top_set = ap (λ q. q % 2) quotient

  pub top_above : (i : ℕ) → top < i → bit_at rest i ≡ 0
  top_above i gt = bit_at_above rest (suc top) i h.high (omega arith)

  off : bit_and rest (bit_not w64 (1 * 2 ^ top % 2 ^ 64)) ≡ rest % 2 ^ top
  off =
      let less = mod_below rest (2 ^ top) (pow_pos top) in
      let le = and_le_l rest (bit_not w64 (1 * 2 ^ top % 2 ^ 64)) in
      let w = whole in
      same_from_bits_below 64 _ _ (omega (arith, le, fits)) (omega (arith, w, fits))
      (λ i lt. ⊎_elim
      (λ (e : i ≡ top). ap (bit_at (bit_and rest (bit_not w64 (1 * 2 ^ top % 2 ^ 64)))) e ∙ bit_at_clear_same w64 rest top h.inside ∙ sym (ap (bit_at (rest % 2 ^ top)) e ∙ bit_at_above (rest % 2 ^ top) top top less (omega arith)))
      (λ ne. bit_at_clear_other w64 rest top h.inside i lt ne ∙ ⊎_elim
      (λ below. ap (λ x. bit_at x i) whole ∙ bit_at_cat_low 1 top (rest % 2 ^ top) i below)
      (λ ge. top_above i (omega arith) ∙ sym (bit_at_above (rest % 2 ^ top) top i less ge))
      (cases_lt i top))
      (cases_eq i top))

  pub top_less : bit_and rest (bit_not w64 (1 * 2 ^ top % 2 ^ 64)) < rest
  top_less = let e = off in let w = whole in let some = pow_pos top in omega (arith, e, w, some)

  pub top_inside : (word to : ℕ) → IsLowRest word rest to → top < to
  top_inside word to l = ⊎_elim (λ lt. lt) (λ ge. absurd (let z = l.above top ge h.inside in let one = top_set in omega (arith, z, one))) (cases_lt top to)

  pub low_more : (word to : ℕ) → IsLowRest word rest to → IsLowRest word (bit_and rest (bit_not w64 (1 * 2 ^ top % 2 ^ 64))) top
  low_more word to l = record {
    few = let lt = h.inside in omega arith;
    below = λ i lt. bit_at_clear_other w64 rest top h.inside i (let t = h.inside in omega arith) (λ e. omega arith) ∙ l.below i (let p = top_inside word to l in omega arith);
    above = λ i ge lt. ⊎_elim
        (λ (e : i ≡ top). ap (bit_at (bit_and rest (bit_not w64 (1 * 2 ^ top % 2 ^ 64)))) e ∙ bit_at_clear_same w64 rest top h.inside)
        (λ ne. bit_at_clear_other w64 rest top h.inside i lt ne ∙ top_above i (omega arith))
        (cases_eq i top);
  }
