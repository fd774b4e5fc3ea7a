-- The lines of a text.
use Rattle.std.specs.Prelude.{ℕ, ◌≤◌, ◌==◌, if◌then◌else◌, List, [], ◌∷◌, length, take, count_by}
use Rattle.std.specs.List.{onto_first}
use Rattle.scripts.specs.declared.limits.TheConstants.{LINE_BYTES}

-- a newline
abbrev pub newline : ℕ
newline = 10

-- The lines of a text, without their newlines. The last may lack its newline, and an empty text has no line.
abbrev pub lines_of : List ℕ → List (List ℕ)
lines_of [] = []
lines_of (b ∷ text) = if b == newline then [] ∷ lines_of text else onto_first b (lines_of text)

-- a line that isn't too long
abbrev pub IsShort : List ℕ → Type 0
IsShort line = length line ≤ LINE_BYTES

-- the lines that have their newline
abbrev pub whole_lines_of : List ℕ → List (List ℕ)
whole_lines_of text = take (count_by (λ b. b == newline) text) (lines_of text)
