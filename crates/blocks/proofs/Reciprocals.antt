-- Reciprocals of the classes, checked for each granule of a page.
use Rattle.std.proofs.Common.{◌≡◌, ℕ, ◌-◌, ◌*◌, ◌/◌, ◌^◌, ◌<◌, ◌≤◌, Bool, true, get_or, refl, ap, ◌∙◌, subst, arith}
use Rattle.std.specs.Prelude.{Some, slice_get, nat_le, ◌==◌}
use Rattle.std.specs.Int.{div_ceil}
use Rattle.std.proofs.lemmas.Bool.{agree_below, agree_below_at, eqb-true, leb-true}
use Rattle.std.proofs.lemmas.Option.{slice_get_within, get_or_from_slice_get}
use Rattle.std.proofs.Math.Nat.{div-div-eq-div-mul, mul-le-mul_right}
use Rattle.words.specs.declared.limits.TheConstants.{GRANULE_BYTES, PAGE_BYTES, PAGE_GRANULES}
use Rattle.words.specs.Classes.{IsSizeClass}
use Rattle.words.specs.declared.class.TheConstants.{CLASSES}
use Rattle.words.proofs.Classes.{class_at, class_passes, class_even}
use Rattle.blocks.specs.declared.reciprocal.TheConstants.{RECIPROCALS, WHOLE}
use Rattle.blocks.specs.Reciprocals.{IsReciprocal}

-- the reciprocal of a class divides a granule
abbrev divides : ℕ → ℕ → Bool
divides c g = (g * div_ceil WHOLE (c / 2) / WHOLE) == (g / (c / 2))

pub reciprocal : (c : ℕ) → IsSizeClass c → IsReciprocal c (div_ceil WHOLE (c / 2))
reciprocal c is = record {
  part = leb-true _ _ (class_passes (λ d. nat_le (div_ceil WHOLE (d / 2)) WHOLE) c refl is);
  exact = λ g lt. eqb-true _ _ (agree_below_at (λ k. divides c k) (λ _. true) PAGE_GRANULES g (class_passes (λ d. agree_below (λ k. divides d k) (λ _. true) PAGE_GRANULES) c refl is) lt);
}

-- the table's numbers are the reciprocals
table_is : (i : ℕ) → i < 13 → get_or RECIPROCALS i 0 ≡ div_ceil WHOLE (get_or CLASSES i 0 / 2)
table_is i lt = eqb-true _ _ (agree_below_at (λ k. get_or RECIPROCALS k 0 == div_ceil WHOLE (get_or CLASSES k 0 / 2)) (λ k. true) 13 i refl lt)

pub reciprocal_inside : (i c : ℕ) → slice_get CLASSES i ≡ Some c → i < 13
reciprocal_inside i c is = slice_get_within CLASSES i c is

pub reciprocal_at : (i c r : ℕ) → slice_get CLASSES i ≡ Some c → r ≡ get_or RECIPROCALS i 0 → IsReciprocal c r
reciprocal_at i c r is e =
    let lt : i < 13 = slice_get_within CLASSES i c is in
    rw (e, table_is i lt) (subst (λ d. IsReciprocal d (div_ceil WHOLE (get_or CLASSES i 0 / 2))) (get_or_from_slice_get CLASSES i c 0 is) (reciprocal (get_or CLASSES i 0) (class_at i lt)))

-- a byte of a page, by its granule
pub quotient : (c r o : ℕ) → IsSizeClass c → IsReciprocal c r → o < PAGE_BYTES → o / GRANULE_BYTES * r / WHOLE ≡ o / (8 * c)
quotient c r o is by lt =
    let even = class_even c is in
    let e : GRANULE_BYTES * (c / 2) ≡ 8 * c = omega arith in
    by.exact (o / GRANULE_BYTES) (omega arith) ∙ (div-div-eq-div-mul o GRANULE_BYTES (c / 2) ∙ ap (λ d. o / d) e)

pub product_fits : (g r : ℕ) → g < PAGE_GRANULES → r ≤ WHOLE → g * r < 2 ^ 32
product_fits g r lt le = let m : g * r ≤ (PAGE_GRANULES - 1) * r = mul-le-mul_right r (omega arith) in omega (arith, m, le)

pub ruleset reciprocals = (reciprocal_inside, reciprocal_at)
