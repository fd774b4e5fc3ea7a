-- Sums over the views of a table, and how often a number stands in a list.
use Rattle.std.proofs.Common.{◌≡◌, ◌≢◌, ℕ, zero, suc, ◌+◌, ◌≤◌, eq-eqb, ne_eqb, List, [], ◌∷◌, ◌++◌, set, refl, sym, ap, arith}
use mathlib.Core.Option.{some, some-injective, some-ne-none}
use lib.ListN.{get_elem?}
use Rattle.mark_bits.specs.declared.claimer_view.ClaimerView.{ClaimerView}
use Rattle.mark_bits.specs.Claims.{one, times}
use Rattle.mark_bits.specs.Rule.{total}

-- a sum after a change of one view
pub total-set : (f : ClaimerView → ℕ) (views : List ClaimerView) (id : ℕ) (v w : ClaimerView) → get_elem? views id ≡ some v → total f (set views id w) + f v ≡ total f views + f w
total-set f [] id v w e = absurd (some-ne-none v (sym e))
total-set f (x ∷ xs) zero v w e = let is : f x ≡ f v = ap f (some-injective x v e) in omega arith
total-set f (x ∷ xs) (suc id) v w e = let rest = total-set f xs id v w e in omega arith

pub total-append : (f : ClaimerView → ℕ) (views more : List ClaimerView) → total f (views ++ more) ≡ total f views + total f more
total-append f [] more = omega arith
total-append f (x ∷ xs) more = let rest = total-append f xs more in omega arith

-- one view is part of the sum
pub part_of_total : (f : ClaimerView → ℕ) (views : List ClaimerView) (id : ℕ) (v : ClaimerView) → get_elem? views id ≡ some v → f v ≤ total f views
part_of_total f [] id v e = absurd (some-ne-none v (sym e))
part_of_total f (x ∷ xs) zero v e = let is : f x ≡ f v = ap f (some-injective x v e) in omega arith
part_of_total f (x ∷ xs) (suc id) v e = let rest = part_of_total f xs id v e in omega arith

-- two views are part of the sum
pub two_of_total : (f : ClaimerView → ℕ) (views : List ClaimerView) (i j : ℕ) (v w : ClaimerView) → i ≢ j → get_elem? views i ≡ some v → get_elem? views j ≡ some w → f v + f w ≤ total f views
two_of_total f [] i j v w apart e e' = absurd (some-ne-none v (sym e))
two_of_total f (x ∷ xs) zero zero v w apart e e' = absurd (apart refl)
two_of_total f (x ∷ xs) zero (suc j) v w apart e e' = let is : f x ≡ f v = ap f (some-injective x v e) in let rest = part_of_total f xs j w e' in omega arith
two_of_total f (x ∷ xs) (suc i) zero v w apart e e' = let is : f x ≡ f w = ap f (some-injective x w e') in let rest = part_of_total f xs i v e in omega arith
two_of_total f (x ∷ xs) (suc i) (suc j) v w apart e e' = let rest = two_of_total f xs i j v w (λ q. apart (ap (λ n. suc n) q)) e e' in omega arith

-- f is 0 of each view of which g is 0
abbrev IsNoneWhere : (f g : ClaimerView → ℕ) (views : List ClaimerView) → Type 0
IsNoneWhere f g views = (id : ℕ) (v : ClaimerView) → get_elem? views id ≡ some v → g v ≡ 0 → f v ≡ 0

none_elsewhere : (f g : ClaimerView → ℕ) (views : List ClaimerView) → IsNoneWhere f g views → total g views ≡ 0 → total f views ≡ 0
none_elsewhere f g [] none e = refl
none_elsewhere f g (x ∷ xs) none e =
    let here : f x ≡ 0 = none 0 x refl (omega arith) in
    let rest = none_elsewhere f g xs (λ id v at. none (suc id) v at) (omega arith) in omega arith

-- then, where all of g is in one view, so is all of f
pub all_in_one : (f g : ClaimerView → ℕ) (views : List ClaimerView) (id : ℕ) (v : ClaimerView) → IsNoneWhere f g views → get_elem? views id ≡ some v → total g views ≡ g v → total f views ≡ f v
all_in_one f g [] id v none at e = absurd (some-ne-none v (sym at))
all_in_one f g (x ∷ xs) zero v none at e =
    let of_g : g x ≡ g v = ap g (some-injective x v at) in let of_f : f x ≡ f v = ap f (some-injective x v at) in
    let rest = none_elsewhere f g xs (λ id u h. none (suc id) u h) (omega arith) in omega arith
all_in_one f g (x ∷ xs) (suc id) v none at e =
    let part = part_of_total g xs id v at in
    let here : f x ≡ 0 = none 0 x refl (omega arith) in
    let rest = all_in_one f g xs id v (λ j u h. none (suc j) u h) at (omega arith) in omega arith

pub times-here : (k : ℕ) (xs : List ℕ) → times k (k ∷ xs) ≡ 1 + times k xs
times-here k xs = ap (λ b. one b + times k xs) (eq-eqb k k refl)

pub times-else : (k x : ℕ) (xs : List ℕ) → x ≢ k → times k (x ∷ xs) ≡ times k xs
times-else k x xs ne = let e : times k (x ∷ xs) ≡ 0 + times k xs = ap (λ b. one b + times k xs) (ne_eqb x k ne) in omega arith

pub times-append : (k : ℕ) (xs ys : List ℕ) → times k (xs ++ ys) ≡ times k xs + times k ys
times-append k [] ys = omega arith
times-append k (x ∷ xs) ys = let rest = times-append k xs ys in omega arith
