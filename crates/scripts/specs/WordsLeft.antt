-- What is left of a line.
use Rattle.std.specs.Prelude.{ℕ, Option, Some, None, List, []}
use Rattle.std.specs.Borrow.{Bor}
use Rattle.scripts.specs.Grammar.{line_words}

-- the words of the rest of a line, where there is a rest
abbrev pub words_left : Option (Bor (List ℕ)) → List (List ℕ)
words_left None = []
words_left (Some rest) = line_words rest.now
