-- What a text of a run tells.
use Rattle.std.specs.Prelude.{ℕ, ◌==◌, not, Bool, false, List, [], ◌∷◌, filter}

-- a line is a comment if it begins with `#`
abbrev pub is_comment : List ℕ → Bool
is_comment [] = false
is_comment (b ∷ line) = b == 35

-- the lines that are told: those that are no comments
abbrev pub told_lines : List (List ℕ) → List (List ℕ)
told_lines lines = filter (λ line. not (is_comment line)) lines
