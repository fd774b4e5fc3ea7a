-- Where texts are cut.
use Rattle.std.proofs.Common.{◌≡◌, ◌≢◌, ℕ, List, [], ◌∷◌, ◌++◌, refl, sym, ap, ◌∙◌, Bool, true, false, eqb}
use Rattle.std.specs.Prelude.{not, ◌&&◌}
use Rattle.std.proofs.lemmas.Bool.{eq-eqb}
use Rattle.std.proofs.lemmas.List.Elements.{All-head, All-tail, All-nil, All-cons}
use Rattle.written_runs.specs.Cuts.{Lacks, IsEmptyOrFrom}

-- two cuts of one text are one
pub record IsSameCut (f r g s : List ℕ) : Type 0 where
  pub front : f ≡ g
  pub rest : r ≡ s

pub same_cut : (at : ℕ) (f r g s : List ℕ) → f ++ r ≡ g ++ s → Lacks at f → IsEmptyOrFrom at r → Lacks at g → IsEmptyOrFrom at s → IsSameCut f r g s
same_cut at [] r [] s e lf fr lg fs = record { front = refl; rest = e }
same_cut at [] [] (y ∷ g) s e lf fr lg fs = let h : ⊥ = cc in absurd h
same_cut at [] (b ∷ r) (y ∷ g) s e lf fr lg fs = let h : b ≡ y = cc in absurd (All-head (λ x. x ≢ at) y g lg (sym h ∙ fr))
same_cut at (x ∷ f) r [] [] e lf fr lg fs = let h : ⊥ = cc in absurd h
same_cut at (x ∷ f) r [] (b ∷ s) e lf fr lg fs = let h : x ≡ b = cc in absurd (All-head (λ z. z ≢ at) x f lf (h ∙ fs))
same_cut at (x ∷ f) r (y ∷ g) s e lf fr lg fs =
    let more : f ++ r ≡ g ++ s = cc in
    let h : x ≡ y = cc in
    let c = same_cut at f r g s more (All-tail (λ z. z ≢ at) x f lf) fr (All-tail (λ z. z ≢ at) y g lg) fs in
    record { front = ap (λ z. z ∷ f) h ∙ ap (λ t. y ∷ t) c.front; rest = c.rest }

-- whether a text lacks a byte, as a test that computes on literals
abbrev pub lacks_test : ℕ → List ℕ → Bool
lacks_test at [] = true
lacks_test at (b ∷ text) = not (eqb b at) && lacks_test at text

pub lacks_by : (at : ℕ) (text : List ℕ) → lacks_test at text ≡ true → Lacks at text
lacks_by at [] holds = All-nil (λ b. b ≢ at)
lacks_by at (b ∷ text) holds = All-cons (λ x. x ≢ at) b text (λ e. apart (eqb b at) (eq-eqb b at e) holds) (lacks_by at text (later (eqb b at) holds))
  where
    apart : (v : Bool) → v ≡ true → not v && lacks_test at text ≡ true → ⊥
    apart true e h = let f : ⊥ = cc in f
    apart false e h = let f : ⊥ = cc in f

    later : (v : Bool) → not v && lacks_test at text ≡ true → lacks_test at text ≡ true
    later true h = let f : ⊥ = cc in absurd f
    later false h = h

-- the first byte of a text, and the second
abbrev pub lead : List ℕ → ℕ
lead [] = 0
lead (b ∷ text) = b

abbrev pub second : List ℕ → ℕ
second [] = 0
second (b ∷ text) = lead text
