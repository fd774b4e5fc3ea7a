-- Words as fields of a line: how a value is written, and which values are in range.
use Rattle.std.specs.Prelude.{◌≡◌, ℕ, Option, MatchOption, List, [], ◌∷◌}
use Rattle.words.specs.declared.class.Kind.{Kind}

-- every kind is in range
abbrev pub IsKind : Kind → Type 0
IsKind kind = Unit {0}

-- the value whose one word these are, and none exactly if it is none's
abbrev pub ReadsOne : {A : Type 0} → (A → List ℕ) → (A → Type 0) → List (List ℕ) → Option A → Type 0
ReadsOne {A} text fits words result = MatchOption result
    ((a : A) → fits a → words ≡ text a ∷ [] → ⊥)
    (λ a. (words ≡ text a ∷ []) × fits a)

-- the same of two words
abbrev pub ReadsTwo : {A B : Type 0} → (A → List ℕ) → (A → Type 0) → (B → List ℕ) → (B → Type 0) → List (List ℕ) → Option (A × B) → Type 0
ReadsTwo {A} {B} text fits text' fits' words result = MatchOption result
    ((a : A) (b : B) → fits a → fits' b → words ≡ text a ∷ text' b ∷ [] → ⊥)
    (λ i. (words ≡ text i.0 ∷ text' i.1 ∷ []) × fits i.0 × fits' i.1)

-- the same of three
abbrev pub ReadsThree : {A B C : Type 0} → (A → List ℕ) → (A → Type 0) → (B → List ℕ) → (B → Type 0) → (C → List ℕ) → (C → Type 0) → List (List ℕ) → Option (A × B × C) → Type 0
ReadsThree {A} {B} {C} text fits text' fits' text'' fits'' words result = MatchOption result
    ((a : A) (b : B) (c : C) → fits a → fits' b → fits'' c → words ≡ text a ∷ text' b ∷ text'' c ∷ [] → ⊥)
    (λ i. (words ≡ text i.0 ∷ text' i.1 ∷ text'' i.2 ∷ []) × fits i.0 × fits' i.1 × fits'' i.2)
