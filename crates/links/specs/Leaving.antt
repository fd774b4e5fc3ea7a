-- What leaves a heap takes its links along, of a row as of the heap.
use Rattle.std.specs.Prelude.{◌≡◌, ℕ, ◌-◌, ◌/◌, ◌&&◌, ◌==◌, not, Bool, List, if◌then◌else◌, length, slice_index}
use Rattle.std.specs.List.{list_any}
use Rattle.words.specs.declared.limits.TheConstants.{WORD_BYTES}
use Rattle.links.specs.declared.row.Link.{Link}

-- a link stays if its holder and the object that it names do
abbrev pub stays_with : (ℕ → Bool) → (ℕ → Bool) → Link → Bool
stays_with holds begins l = holds l.address && begins l.base

-- its word becomes 0 if its holder stays and the object that it names does not
abbrev pub loses_with : (ℕ → Bool) → (ℕ → Bool) → Link → Bool
loses_with holds begins l = holds l.address && not (begins l.base)

-- where the word at an address stands in the row of all words, the first of which has the address `origin`
abbrev pub word_index : ℕ → ℕ → ℕ
word_index origin a = (a - origin) / WORD_BYTES

-- whether the word of this index is that of a link that has to become 0
abbrev pub clears_with : ℕ → (ℕ → Bool) → (ℕ → Bool) → List Link → ℕ → Bool
clears_with origin holds begins row k = list_any (λ l. (word_index origin l.address == k) && loses_with holds begins l) row

-- The words of the links that have to become 0 are 0, and all others are as they were.
pub record ClearsWords (origin : ℕ) (holds begins : ℕ → Bool) (row : List Link) (old new : List ℕ) : Type 0 where
  pub size : length new ≡ length old
  pub words : (k : ℕ) → slice_index new k ≡ (if clears_with origin holds begins row k then 0 else slice_index old k)
