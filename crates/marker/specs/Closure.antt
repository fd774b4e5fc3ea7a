-- The closure of a set of objects.
use Rattle.std.specs.Prelude.{◌≡◌, ◌↔◌, ℕ, ◌<◌, List, Contains, Option, Some}
use Rattle.words.specs.declared.class.Kind.TheVariants.{Normal}
use Rattle.pages.specs.Memory.{word_at}
use Rattle.block_map.specs.declared.found.Found.{Found}
use Rattle.marker.specs.Marking.{Marking, IsMarked, word_address}

-- The least set that holds the given objects, each object that a root word points into, and with each Normal object every
-- object that one of its words points into. `found` is the object that a word points into, `given` says which bases are given.
pub data Closure (found : ℕ → Option Found) (words roots : List ℕ) (given : ℕ → Type 0) : Found → Type 0 where
  held : {f : Found} → found f.base ≡ Some f → given f.base → Closure found words roots given f
  root : {w : ℕ} {f : Found} → Contains roots w → found w ≡ Some f → Closure found words roots given f
  word : {p f : Found} (i : ℕ) → Closure found words roots given p → p.kind ≡ Normal → i < p.len → found (word_at words (word_address p i)) ≡ Some f → Closure found words roots given f

-- The marked objects are now exactly the closure of the roots and of those that were marked before.
abbrev pub AreClosed : (ℕ → Option Found) → List ℕ → List ℕ → Marking → Marking → Type 0
AreClosed found words roots old new = (f : Found) → found f.base ≡ Some f → (IsMarked new f.base ↔ Closure found words roots (IsMarked old) f)
