-- The texts of numbers and lists.
use Rattle.std.specs.Prelude.{ℕ, nat_lt, if◌then◌else◌, List, [], ◌∷◌, ◌++◌, codes, decimal, flat_map}
use Rattle.trace_lines.specs.declared.shown.TheConstants.{TEXT_FROM}

-- A number as JSON: as it is, and in quotes where a JavaScript number couldn't hold it.
abbrev pub number_text : ℕ → List ℕ
number_text n = if nat_lt n TEXT_FROM then decimal n else codes "\"" ++ (decimal n ++ codes "\"")

-- items, each behind a comma
abbrev pub more_text : {A : Type 0} → (A → List ℕ) → List A → List ℕ
more_text text items = flat_map (λ item. codes "," ++ text item) items

-- items with commas between them
abbrev pub items_text : {A : Type 0} → (A → List ℕ) → List A → List ℕ
items_text text [] = []
items_text text (first ∷ rest) = text first ++ more_text text rest

-- a list
abbrev pub list_text : {A : Type 0} → (A → List ℕ) → List A → List ℕ
list_text text items = codes "[" ++ (items_text text items ++ codes "]")
