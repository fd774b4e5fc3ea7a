-- What a claimer doesn't know yet grows less, and what a list contains.
use Rattle.std.proofs.Common.{◌≡◌, ℕ, zero, suc, ◌+◌, ◌<◌, ◌≤◌, List, [], ◌∷◌, Bool, true, false, Contains, refl, sym, ap, ◌∙◌, inl, inr, ⊎_elim, subst, arith}
use Rattle.std.specs.Prelude.{◌⊎◌}
use Rattle.std.proofs.lemmas.Bool.{false≢true, cases_eq}
use Rattle.std.proofs.lemmas.List.Elements.{Contains-append_cases}
use Rattle.mark_bits.specs.declared.claimer_view.ClaimerView.{ClaimerView}
use Rattle.mark_bits.specs.Claims.{knows}
use Rattle.final_pause.specs.Helping.{unseen, unknown}

one_less : (a b : Bool) → (a ≡ true → b ≡ true) → unseen b ≤ unseen a
one_less true true h = omega arith
one_less true false h = absurd (false≢true (h refl))
one_less false true h = omega arith
one_less false false h = omega arith

pub unknown_le : (n : ℕ) (v w : ClaimerView) → ((k : ℕ) → knows v k ≡ true → knows w k ≡ true) → unknown n w ≤ unknown n v
unknown_le zero v w h = omega arith
unknown_le (suc n) v w h = let i = unknown_le n v w h in let o = one_less (knows v n) (knows w n) (h n) in omega (arith, i, o)

pub unknown_lt : (n k : ℕ) (v w : ClaimerView) → ((j : ℕ) → knows v j ≡ true → knows w j ≡ true) → k < n → knows v k ≡ false → knows w k ≡ true → unknown n w + 1 ≤ unknown n v
unknown_lt zero k v w h lt out in' = absurd (omega arith)
unknown_lt (suc n) k v w h lt out in' =
    ⊎_elim
    (λ (e : k ≡ n).
    let i = unknown_le n v w h in
    let a : unseen (knows v n) ≡ 1 = ap unseen (ap (knows v) (sym e) ∙ out) in
    let b : unseen (knows w n) ≡ 0 = ap unseen (ap (knows w) (sym e) ∙ in') in
    omega (arith, i, a, b))
    (λ ne. let i = unknown_lt n k v w h (omega (arith, lt, ne)) out in' in let o = one_less (knows v n) (knows w n) (h n) in omega (arith, i, o))
    (cases_eq k n)

pub contains_one : {T : Type 0} (x y : T) → Contains (x ∷ []) y → x ≡ y
contains_one x y (zero, lt, e) = e
contains_one x y (suc i, lt, e) = absurd (omega (arith, lt))

pub contains_cons : {T : Type 0} (x y : T) (xs : List T) → Contains (x ∷ xs) y → (x ≡ y) ⊎ Contains xs y
contains_cons x y xs h =
    ⊎_elim (λ (c : Contains (x ∷ []) y). inl (contains_one x y c)) (λ c. inr c) (Contains-append_cases (x ∷ []) xs y h)

pub contains_more : {T : Type 0} (x y : T) (xs : List T) → Contains xs y → Contains (x ∷ xs) y
contains_more x y xs h = let lt = h.1 in (suc h.0, omega (arith, lt), h.2)

pub contains_here : {T : Type 0} (x : T) (xs : List T) → Contains (x ∷ xs) x
contains_here x xs = (0, omega arith, refl)

pub none_in : {T : Type 0} (l : List T) (b : T) → l ≡ [] → Contains l b → ⊥
none_in l b is c = let h : Contains [] b = subst (λ m. Contains m b) is c in let lt = h.1 in absurd (omega (arith, lt))
