-- Tables of objects by their bases, with one entry changed.
use Rattle.std.proofs.Common.{◌≡◌, ℕ, false, eqb, sym, ◌∙◌, arith, inl, inr, ◌⊎◌, ⊎_elim, Option, Some}
use Rattle.std.specs.Prelude.{◌≢◌}
use Rattle.std.proofs.lemmas.Bool.{cond-true, cond-false, eq-eqb, cases_eq}
use Rattle.std.proofs.lemmas.Option.{same_Some}
use Rattle.heap_spec.specs.Heap.{with_at}

-- at the key that was set
pub with_at-same : {A : Type 0} (m : ℕ → Option A) (k : ℕ) (v : Option A) (q : ℕ) → q ≡ k → with_at m k v q ≡ v
with_at-same m k v q e = cond-true (eqb q k) v (m q) (eq-eqb q k e)

eqb_ne : (a b : ℕ) → a ≢ b → eqb a b ≡ false
eqb_ne a b n = grind arith

-- at any other
pub with_at-other : {A : Type 0} (m : ℕ → Option A) (k : ℕ) (v : Option A) (q : ℕ) → q ≢ k → with_at m k v q ≡ m q
with_at-other m k v q e = cond-false (eqb q k) v (m q) (eqb_ne q k e)

-- what a table has with one entry set
pub with_at-cases : {A : Type 0} (m : ℕ → Option A) (k : ℕ) (x : A) (q : ℕ) (y : A) → with_at m k (Some x) q ≡ Some y → ((q ≡ k) × (x ≡ y)) ⊎ ((q ≢ k) × (m q ≡ Some y))
with_at-cases m k x q y is =
    ⊎_elim
    (λ same. inl (same, same_Some _ _ (sym (with_at-same m k (Some x) q same) ∙ is)))
    (λ other. inr (other, sym (with_at-other m k (Some x) q other) ∙ is))
    (cases_eq q k)
