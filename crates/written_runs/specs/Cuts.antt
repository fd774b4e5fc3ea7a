-- Texts that are cut at a byte.
use Rattle.std.specs.Prelude.{◌≡◌, ◌≢◌, ℕ, List, [], ◌∷◌, ◌++◌, All}

-- no byte of the text is this one
abbrev pub Lacks : ℕ → List ℕ → Type 0
Lacks at text = All (λ b. b ≢ at) text

-- nothing, or a text that begins with this byte
abbrev pub IsEmptyOrFrom : ℕ → List ℕ → Type 0
IsEmptyOrFrom at [] = Unit {0}
IsEmptyOrFrom at (b ∷ rest) = b ≡ at

-- A text is cut at a byte: the front lacks it, and the rest begins with it, or is nothing.
pub record IsTextCut (at : ℕ) (text front rest : List ℕ) : Type 0 where
  pub whole : text ≡ front ++ rest
  pub lacks : Lacks at front
  pub from : IsEmptyOrFrom at rest
