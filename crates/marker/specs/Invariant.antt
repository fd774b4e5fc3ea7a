-- The dirty-page invariant.
use Rattle.std.specs.Prelude.{◌≡◌, ℕ, ◌<◌, List, Contains, Option, Some, ◌⊎◌}
use Rattle.words.specs.declared.class.Kind.TheVariants.{Normal}
use Rattle.words.specs.Bits.{Has}
use Rattle.words.specs.Layout.{page_of}
use Rattle.pages.specs.Memory.{word_at}
use Rattle.block_map.specs.declared.found.Found.{Found}
use Rattle.marker.specs.Marking.{Marking, IsMarked, IsDirtyAt, IsLeftToEntry, IsOutside, bytes_of, word_address}

-- the object that the word points into, if any, is marked
abbrev pub IsTargetMarked : (ℕ → Option Found) → Marking → ℕ → Type 0
IsTargetMarked found m w = (g : Found) → found w ≡ Some g → IsMarked m g.base

-- the marker will come to the word i of the object
abbrev pub IsAwaited : Marking → Found → ℕ → Type 0
IsAwaited m f i = IsDirtyAt m (word_address f i) ⊎ IsLeftToEntry m f.base i

-- For each word of a marked Normal object: what it points into is marked, or the word's page is dirty, or an entry with
-- that object's base still has the word to read.
abbrev pub DirtyPageInvariant : (ℕ → Option Found) → List ℕ → Marking → Type 0
DirtyPageInvariant found words m = (f : Found) → found f.base ≡ Some f → f.kind ≡ Normal → IsMarked m f.base → (i : ℕ) → i < f.len
    → IsTargetMarked found m (word_at words (word_address f i)) ⊎ IsAwaited m f i

-- A word that stands at the address is settled: it points into a marked object, or it lies outside of the heap, or its page is
-- carried.
pub data IsSettled (found : ℕ → Option Found) (m : Marking) (address w : ℕ) : Type 0 where
  held : (g : Found) → found w ≡ Some g → IsMarked m g.base → IsSettled found m address w
  outside : IsOutside (bytes_of m) w → IsSettled found m address w
  carried : Has m.carried (page_of address) → IsSettled found m address w

-- For each word of a marked Normal object: it is settled, or its page is dirty, or an entry with that object's base still has the
-- word to read. Unlike the dirty-page invariant it stays when an unmarked object comes.
abbrev pub CarriedPageInvariant : (ℕ → Option Found) → List ℕ → Marking → Type 0
CarriedPageInvariant found words m = (f : Found) → found f.base ≡ Some f → f.kind ≡ Normal → IsMarked m f.base → (i : ℕ) → i < f.len
    → IsSettled found m (word_address f i) (word_at words (word_address f i)) ⊎ IsAwaited m f i

-- what each of these words points into is marked
abbrev pub AreRootsMarked : (ℕ → Option Found) → List ℕ → Marking → Type 0
AreRootsMarked found roots m = (w : ℕ) → Contains roots w → IsTargetMarked found m w
