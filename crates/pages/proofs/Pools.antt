-- How many pages of a pool are free.
use Rattle.std.proofs.Common.{◌≡◌, ℕ, zero, suc, ◌+◌, ◌-◌, ◌≤◌, Bool, true, false, List, length, get_or, take, refl, sym, ap, ◌∙◌, arith}
use Rattle.std.proofs.Math.Seq.{take-length}
use Rattle.words.specs.Bits.{members, members_between, IsFullFrom}
use Rattle.words.proofs.Counts.{member_more}

-- ---- the pages that are free from one on
members_full : (row : List Bool) (from n : ℕ) → from + n ≤ length row → IsFullFrom row from → members_between row 0 (from + n) ≡ members_between row 0 from + n
members_full row from zero fits full = ap (members_between row 0) (let e : from + 0 ≡ from = omega arith in e) ∙ omega arith
members_full row from (suc n) fits full =
    let next : from + suc n ≡ from + n + 1 = omega arith in
    let before = members_full row from n (omega (arith, fits)) full in
    let one = member_more row 0 (from + n) 1 (omega arith) (omega (arith, fits)) (omega arith) (full (from + n) (omega arith) (omega (arith, fits))) in
    ap (members_between row 0) next ∙ one ∙ omega (arith, before)

pub free_counted : (row : List Bool) (used count : ℕ) → used ≤ length row → IsFullFrom row used → count ≡ members_between row 0 used → count + (length row - used) ≡ members row
free_counted row used count inside full is =
    let whole : used + (length row - used) ≡ length row = omega (arith, inside) in
    let none : length row - 0 ≡ length row = omega arith in
    let all = members_full row used (length row - used) (omega (arith, whole)) full in
    ap (λ c. c + (length row - used)) is ∙ sym all ∙ ap (members_between row 0) whole ∙ ap (λ n. members (take n row)) none ∙ ap members (take-length row)

pub count_fits : (row : List Bool) (used count : ℕ) → used ≤ length row → count ≡ members_between row 0 used → count ≤ used
count_fits row used count inside is = let few = few_between row used inside in omega (arith, few, is)
  where
    few_between : (row : List Bool) (n : ℕ) → n ≤ length row → members_between row 0 n ≤ n
    few_between row zero fits = omega arith
    few_between row (suc n) fits = few_more row n fits (get_or row n false) refl (few_between row n (omega (arith, fits)))
      where
        few_more : (row : List Bool) (n : ℕ) → suc n ≤ length row → (b : Bool) → get_or row n false ≡ b → members_between row 0 n ≤ n → members_between row 0 (suc n) ≤ suc n
        few_more row n fits true is before =
            let next : suc n ≡ n + 1 = omega arith in
            let one = member_more row 0 n 1 (omega arith) (omega (arith, fits)) (omega arith) is in
            let e = ap (members_between row 0) next ∙ one in omega (arith, e, before)
        few_more row n fits false is before =
            let next : suc n ≡ n + 1 = omega arith in
            let one = member_more row 0 n 0 (omega arith) (omega (arith, fits)) (omega arith) is in
            let e = ap (members_between row 0) next ∙ one in omega (arith, e, before)

pub ruleset pools = (free_counted, count_fits)
