-- A word from which the bits that are set go one after another, the lowest first.
use Rattle.std.proofs.Common.{◌≡◌, ℕ, zero, suc, ◌-◌, ◌+◌, ◌*◌, ◌/◌, ◌%◌, ◌^◌, ◌<◌, ◌≤◌, true, refl, sym, ap, ◌∙◌, ⊎_elim, arith}
use Rattle.std.specs.Prelude.{◌==◌}
use Rattle.std.specs.Int.{bit_at, trailing_zeros, w64}
use Rattle.std.specs.Int.RustNames.{bit_and}
use Rattle.std.proofs.lemmas.Bool.{cases_eq, cases_lt}
use Rattle.std.proofs.lemmas.Nat.{div-add-mod', div-mul-add, mod-pow-add, pow_pos, shr-shr}
use Rattle.std.proofs.lemmas.Nat.Bits.{bit_at-trailing_zeros, bit_at-zero, bit_at_and}
use Rattle.std.proofs.Math.Nat.{mod-one}
use Rattle.words.specs.Bits.{HasNoBit, IsFirstBit}

-- where none of the t lowest bits is set, nothing is left of a division by 2 ^ t
none_low : (w t : ℕ) → ((i : ℕ) → i < t → bit_at w i ≡ 0) → w % 2 ^ t ≡ 0
none_low w zero none = mod-one w
none_low w (suc t) none =
    let before : w % 2 ^ t ≡ 0 = none_low w t (λ i lt. none i (omega arith)) in
    let order : suc t ≡ 1 + t = omega arith in
    let part : bit_at w t * 2 ^ t ≡ 0 * 2 ^ t = ap (λ b. b * 2 ^ t) (none t (omega arith)) in
    let split : w % 2 ^ (1 + t) ≡ bit_at w t * 2 ^ t + w % 2 ^ t = mod-pow-add w 1 t in
    ap (λ n. w % 2 ^ n) order ∙ split ∙ omega (arith, before, part)

module _ (w t : ℕ) (here : bit_at w t ≡ 1) (none : (i : ℕ) → i < t → bit_at w i ≡ 0) where
  -- one less has the same bits above t, and not the bit t
  less : (w - 1) / 2 ^ t ≡ w / 2 ^ t - 1
  less =
      let q : ℕ = w / 2 ^ t - 1 in
      let odd : w / 2 ^ t ≡ q + 1 = omega (arith, here) in
      let whole : w / 2 ^ t * 2 ^ t + w % 2 ^ t ≡ w = div-add-mod' w (2 ^ t) in
      let low = none_low w t none in
      let some = pow_pos t in
      let m : w / 2 ^ t * 2 ^ t ≡ (q + 1) * 2 ^ t = ap (λ x. x * 2 ^ t) odd in
      let e : (q + 1) * 2 ^ t ≡ q * 2 ^ t + 2 ^ t = omega arith in
      let is : w - 1 ≡ q * 2 ^ t + (2 ^ t - 1) = omega (arith, whole, low, some, m, e) in
      ap (λ x. x / 2 ^ t) is ∙ div-mul-add q (2 ^ t) (2 ^ t - 1) (omega (arith, some))

  half : (w - 1) / 2 ^ (t + 1) ≡ w / 2 ^ (t + 1)
  half =
      let a : (w - 1) / 2 ^ t / 2 ≡ (w - 1) / 2 ^ (t + 1) = shr-shr (w - 1) t 1 in
      let b : w / 2 ^ t / 2 ≡ w / 2 ^ (t + 1) = shr-shr w t 1 in
      let l = less in
      sym a ∙ omega (arith, l, here) ∙ b

  pub bit_gone : (i : ℕ) → i < t + 1 → bit_at (bit_and w (w - 1)) i ≡ 0
  bit_gone i lt =
      let both = bit_at_and w (w - 1) i in
      ⊎_elim
      (λ (e : i ≡ t).
      let l = less in
      let off : bit_at (w - 1) t ≡ 0 = omega (arith, l, here) in
      let z : bit_at (w - 1) i ≡ 0 = ap (bit_at (w - 1)) e ∙ off in omega (arith, both, z))
      (λ ne. let z = none i (omega arith) in omega (arith, both, z))
      (cases_eq i t)

  pub bit_left : (i : ℕ) → t < i → bit_at (bit_and w (w - 1)) i ≡ bit_at w i
  bit_left i gt =
      let k : ℕ = i - (t + 1) in
      let order : t + 1 + k ≡ i = omega arith in
      let a : (w - 1) / 2 ^ (t + 1) / 2 ^ k ≡ (w - 1) / 2 ^ i = shr-shr (w - 1) (t + 1) k ∙ ap (λ n. (w - 1) / 2 ^ n) order in
      let b : w / 2 ^ (t + 1) / 2 ^ k ≡ w / 2 ^ i = shr-shr w (t + 1) k ∙ ap (λ n. w / 2 ^ n) order in
      let same : bit_at (w - 1) i ≡ bit_at w i = ap (λ x. x % 2) (sym a ∙ ap (λ x. x / 2 ^ k) half ∙ b) in
      let both = bit_at_and w (w - 1) i in
      omega (arith, both, same)

-- the rest of a word has its bits from a place on
pub record IsRest (word rest from : ℕ) : Type 0 where
  pub few : from ≤ 64
  pub below : (i : ℕ) → i < from → bit_at rest i ≡ 0
  pub above : (i : ℕ) → from ≤ i → bit_at rest i ≡ bit_at word i

pub rest_all : (word : ℕ) → IsRest word word 0
rest_all word = record { few = omega arith; below = λ i lt. absurd (omega arith); above = λ i ge. refl }

pub rest_none : (word rest from : ℕ) → rest ≡ 0 → IsRest word rest from → HasNoBit word true from
rest_none word rest from none h = record { none = λ i ge lt. ap (λ b. b == 1) (sym (h.above i ge) ∙ ap (λ x. bit_at x i) none ∙ bit_at-zero i) }

module _ (word rest from : ℕ) (h : IsRest word rest from) (some : 0 < rest) (fits : rest < 2 ^ 64) where
  lowest : (trailing_zeros w64 rest < 64) × (bit_at rest (trailing_zeros w64 rest) ≡ 1) × ((i : ℕ) → i < trailing_zeros w64 rest → bit_at rest i ≡ 0)
  lowest = bit_at-trailing_zeros w64 rest some fits

  past : from ≤ trailing_zeros w64 rest
  past = ⊎_elim (λ lt. absurd (let z = h.below (trailing_zeros w64 rest) lt in let one = lowest.1 in omega (arith, z, one))) (λ ge. ge) (cases_lt (trailing_zeros w64 rest) from)

  pub rest_first : IsFirstBit word true from (trailing_zeros w64 rest)
  rest_first = record {
    inside = lowest.0;
    from = past;
    here = ap (λ b. b == 1) (sym (h.above (trailing_zeros w64 rest) past) ∙ lowest.1);
    least = λ i ge lt. ap (λ b. b == 1) (sym (h.above i ge) ∙ lowest.2 i lt);
  }

  pub rest_more : IsRest word (bit_and rest (rest - 1)) (trailing_zeros w64 rest + 1)
  rest_more = record {
    few = let lt = lowest.0 in omega arith;
    below = λ i lt. bit_gone rest (trailing_zeros w64 rest) lowest.1 lowest.2 i lt;
    above = λ i ge. bit_left rest (trailing_zeros w64 rest) lowest.1 lowest.2 i (omega arith) ∙ h.above i (let low = past in omega arith);
  }
