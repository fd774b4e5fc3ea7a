-- Rows of links.
use Rattle.std.specs.Prelude.{◌≡◌, ℕ, ◌%◌, ◌<◌, ◌≤◌, ◌⊎◌, ◌==◌, Bool, true, false, not, List, [], ◌∷◌, ◌++◌, All, filter, length}
use Rattle.std.specs.List.{list_any}
use Rattle.words.specs.declared.limits.TheConstants.{WORD_BYTES, MAX_LINKS}
use Rattle.links.specs.declared.row.Link.{Link}

-- whether a link of the row stands at the address
abbrev pub has_at : List Link → ℕ → Bool
has_at row a = list_any (λ l. l.address == a) row

-- the row but for a link at the address
abbrev pub but_at : List Link → ℕ → List Link
but_at row a = filter (λ l. not (l.address == a)) row

-- the row with a link at the address, in place of one that stands there
abbrev pub with_link_at : List Link → ℕ → ℕ → List Link
with_link_at row a base = but_at row a ++ record { address = a; base = base } ∷ []

-- the links stand at addresses of words
pub record IsAlignedRow (row : List Link) : Type 0 where
  pub aligned : All (λ l. l.address % WORD_BYTES ≡ 0) row

-- The links of the row stand at addresses of words, and there are no more than there is room for.
pub record IsRow (row : List Link) : Type 0 where
  pub aligned : IsAlignedRow row
  pub few : length row ≤ MAX_LINKS

-- there is room for a link at the address
abbrev pub HasRowRoom : List Link → ℕ → Type 0
HasRowRoom row a = (length row < MAX_LINKS) ⊎ (has_at row a ≡ true)

-- as many links stand as there is room for, and none at the address
pub record LacksRowRoom (row : List Link) (a : ℕ) : Type 0 where
  pub full : length row ≡ MAX_LINKS
  pub free : has_at row a ≡ false
