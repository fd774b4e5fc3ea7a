-- What mutators do to a heap that is being marked.
use Rattle.std.specs.Prelude.{◌≡◌, ◌⊎◌, ℕ, ◌<◌, length, true, false, List, slice_set, Option, Some}
use Rattle.words.specs.Bits.{Has, IsClear}
use Rattle.words.specs.Layout.{granule, page_of}
use Rattle.pages.specs.Memory.{word_at, with_word_at}
use Rattle.block_map.specs.declared.found.Found.{Found}
use Rattle.block_map.specs.Objects.{IsMap}
use Rattle.block_map.specs.Changes.{IsAdded, IsRemoved}
use Rattle.marker.specs.Marking.{Marking, word_address}
use Rattle.marker.specs.Invariant.{DirtyPageInvariant, CarriedPageInvariant}

-- the page of the address has become dirty
pub record DirtiesPage (address : ℕ) (old new : Marking) : Type 0 where
  pub marks : new.marks ≡ old.marks
  pub dirty : new.dirty ≡ slice_set old.dirty (page_of address) true
  pub carried : new.carried ≡ old.carried
  pub current : new.current ≡ old.current
  pub stack : new.stack ≡ old.stack

-- the object with this base has become marked
pub record IsAllocated (base : ℕ) (old new : Marking) : Type 0 where
  pub marks : new.marks ≡ slice_set old.marks (granule base) true
  pub dirty : new.dirty ≡ old.dirty
  pub carried : new.carried ≡ old.carried
  pub current : new.current ≡ old.current
  pub stack : new.stack ≡ old.stack

-- the object with this base is not marked any more
pub record IsFreed (base : ℕ) (old new : Marking) : Type 0 where
  pub marks : new.marks ≡ slice_set old.marks (granule base) false
  pub dirty : new.dirty ≡ old.dirty
  pub carried : new.carried ≡ old.carried
  pub current : new.current ≡ old.current
  pub stack : new.stack ≡ old.stack

-- no object has come: each that a word points into now, it pointed into before
pub record HasNoNew (found after : ℕ → Option Found) : Type 0 where
  pub before : (w : ℕ) (f : Found) → after w ≡ Some f → found w ≡ Some f

-- the words of these objects are as they were
abbrev pub KeepsWords : (ℕ → Option Found) → List ℕ → List ℕ → Type 0
KeepsWords found words words' = (f : Found) (i : ℕ) → found f.base ≡ Some f → i < f.len → word_at words' (word_address f i) ≡ word_at words (word_address f i)

-- the words of this object are 0
abbrev pub HasZeroWords : List ℕ → Found → Type 0
HasZeroWords words f = (i : ℕ) → i < f.len → word_at words (word_address f i) ≡ 0

-- the invariant stays, whatever is written at the address
abbrev pub StaysOnWrite : ℕ → Marking → Marking → Type 0
StaysOnWrite address old new = (found : ℕ → Option Found) (words : List ℕ) (w : ℕ) → DirtyPageInvariant found words old → DirtyPageInvariant found (with_word_at words address w) new

-- the invariant stays when an object of zero words comes at the base
abbrev pub StaysOnAllocation : ℕ → Marking → Marking → Type 0
StaysOnAllocation base old new = (pages : ℕ) (found after : ℕ → Option Found) (words words' : List ℕ) (f : Found) → f.base ≡ base → IsMap pages after → after base ≡ Some f
    → IsAdded found after f → KeepsWords found words words' → HasZeroWords words' f
    → DirtyPageInvariant found words old → DirtyPageInvariant after words' new

-- the invariant stays when the object with the base leaves
abbrev pub StaysOnFree : ℕ → Marking → Marking → Type 0
StaysOnFree base old new = (pages : ℕ) (found after : ℕ → Option Found) (words words' : List ℕ) (f : Found) → f.base ≡ base → IsMap pages found → found base ≡ Some f
    → IsRemoved found after f → KeepsWords after words words'
    → DirtyPageInvariant found words old → DirtyPageInvariant after words' new

-- what was carried is dirty now and nothing is carried, and the marks and the entries are what they were
pub record BeginsPartial (old new : Marking) : Type 0 where
  pub marks : new.marks ≡ old.marks
  pub dirty_len : length new.dirty ≡ length old.dirty
  pub each : (p : ℕ) → Has new.dirty p → Has old.dirty p ⊎ Has old.carried p
  pub dirty : (p : ℕ) → Has old.dirty p → Has new.dirty p
  pub carried : (p : ℕ) → Has old.carried p → Has new.dirty p
  pub none : IsClear new.carried (length old.carried)
  pub current : new.current ≡ old.current
  pub stack : new.stack ≡ old.stack

-- the invariant of carried pages stays, whatever is written at the address
abbrev pub StaysCarriedOnWrite : ℕ → Marking → Marking → Type 0
StaysCarriedOnWrite address old new = (found : ℕ → Option Found) (words : List ℕ) (w : ℕ) → CarriedPageInvariant found words old → CarriedPageInvariant found (with_word_at words address w) new

-- and when an object of zero words comes at the base
abbrev pub StaysCarriedOnAllocation : ℕ → Marking → Marking → Type 0
StaysCarriedOnAllocation base old new = (pages : ℕ) (found after : ℕ → Option Found) (words words' : List ℕ) (f : Found) → f.base ≡ base → IsMap pages after → after base ≡ Some f
    → IsAdded found after f → KeepsWords found words words' → HasZeroWords words' f
    → CarriedPageInvariant found words old → CarriedPageInvariant after words' new
