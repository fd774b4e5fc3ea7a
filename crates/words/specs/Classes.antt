-- The size classes.
use Rattle.std.specs.Prelude.{ℕ, ◌==◌, IsTrue}
use Rattle.std.specs.List.{list_any, position_or_len}
use Rattle.words.specs.declared.class.TheConstants.{CLASSES}

-- so many words are the words of a size class
abbrev pub IsSizeClass : ℕ → Type 0
IsSizeClass n = IsTrue (list_any (λ c. c == n) CLASSES)

-- the number of a class: its place among the classes
abbrev pub number_of : ℕ → ℕ
number_of words = position_or_len (λ c. c == words) CLASSES
