-- Marks that were gathered, as a set.
use Rattle.std.proofs.Common.{◌≡◌, ℕ, zero, suc, ◌<◌, ◌≤◌, ◌⊎◌, Bool, true, false, ◌==◌, eq-eqb, ne_eqb, List, [], ◌∷◌, length, get_or, refl, sym, ap, arith, inl, inr, ⊎_elim}
use Rattle.std.specs.Prelude.{Contains, nat_eq}
use Rattle.std.specs.List.{IsDistinct, AllByRecursion}
use Rattle.std.proofs.lemmas.Bool.{cases_eq}
use Rattle.mark_bits.specs.Claims.{one, times, has, Gathers}
use Rattle.mark_bits.proofs.Sums.{times-here, times-else}

times-at : (k : ℕ) (xs : List ℕ) (i : ℕ) → i < length xs → get_or xs i k ≡ k → 0 < times k xs
times-at k [] i lt e = absurd (omega arith)
times-at k (x ∷ xs) zero lt e = let here : one (x == k) ≡ 1 = ap one (eq-eqb x k e) in omega arith
times-at k (x ∷ xs) (suc i) lt e = let rest = times-at k xs i (omega arith) e in omega arith

Contains-times : (k : ℕ) (xs : List ℕ) → 0 < times k xs → Contains xs k
Contains-times k [] some = absurd (omega arith)
Contains-times k (x ∷ xs) some =
    ⊎_elim
    (λ (e : x ≡ k). (0, omega arith, e))
    (λ ne. let else = times-else k x xs ne in let rest = Contains-times k xs (omega arith) in let lt = rest.1 in (suc rest.0, omega arith, rest.2))
    (cases_eq x k)

none_of : (x : ℕ) (xs : List ℕ) → times x xs ≡ 0 → AllByRecursion (λ y. nat_eq x y ≡ false) xs
none_of x [] none = tt
none_of x (y ∷ ys) none = (
  ne_eqb x y (λ e. let here : one (y == x) ≡ 1 = ap one (eq-eqb y x (sym e)) in omega arith),
  none_of x ys (omega arith),
)

pub distinct : (xs : List ℕ) → ((k : ℕ) → times k xs ≤ 1) → IsDistinct nat_eq xs
unfolding IsDistinct
distinct [] few = tt
distinct (x ∷ xs) few = (
  none_of x xs (let f = few x in let here = times-here x xs in omega arith),
  distinct xs (λ k. let f = few k in omega arith),
)

is_true : (b : Bool) → 0 < one b → b ≡ true
is_true true h = refl
is_true false h = absurd (omega arith)

is_false : (b : Bool) → one b ≡ 0 → b ≡ false
is_false true h = absurd (omega arith)
is_false false h = refl

one-le : (b : Bool) → one b ≤ 1
one-le true = omega arith
one-le false = omega arith

true_or_false : (b : Bool) → (b ≡ true) ⊎ (b ≡ false)
true_or_false true = inl refl
true_or_false false = inr refl

module _ (start : List Bool) (won : List ℕ) (marks : List Bool) (gathers : Gathers start won marks) (k : ℕ) where
  pub gathered-each : has marks k ≡ true → (has start k ≡ true) ⊎ Contains won k
  gathered-each h =
      ⊎_elim
      (λ t. inl t)
      (λ f. let o = gathers.once k in let s : one (has start k) ≡ 0 = ap one f in let m : one (has marks k) ≡ 1 = ap one h in inr (Contains-times k won (omega arith)))
      (true_or_false (has start k))

  pub gathered-start : has start k ≡ true → has marks k ≡ true
  gathered-start h = let o = gathers.once k in let s : one (has start k) ≡ 1 = ap one h in is_true (has marks k) (omega arith)

  pub gathered-won : Contains won k → (has marks k ≡ true) × (has start k ≡ false)
  gathered-won h =
      let o = gathers.once k in
      let some = times-at k won h.0 h.1 h.2 in
      let m = one-le (has marks k) in
      (is_true (has marks k) (omega arith), is_false (has start k) (omega arith))

  pub won_once : times k won ≤ 1
  won_once = let o = gathers.once k in let m = one-le (has marks k) in omega arith
