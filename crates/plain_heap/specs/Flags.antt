-- Flags of objects, by where the words at their bases stand in the row of all words, whose first has the address `origin`.
use Rattle.std.specs.Prelude.{◌≡◌, ◌↔◌, ◌⊎◌, ℕ, ◌*◌, ◌<◌, ◌≤◌, Bool, true, false, Some, List, Contains, length, slice_get, slice_index_or}
use Rattle.words.specs.declared.limits.TheConstants.{PAGE_WORDS}
use Rattle.heap_spec.specs.declared.call.Call.{Call}
use Rattle.heap_spec.specs.declared.reply.Reply.TheVariants.{Count}
use Rattle.heap_spec.specs.Heap.{Heap, Object, HasObject, PointsIntoObject}
use Rattle.heap_spec.specs.Closure.{Reached}
use Rattle.heap_spec.specs.Cycles.{TakesOut}
use Rattle.heap_spec.specs.Laws.{IsNoAlloc}
use Rattle.heap_spec.specs.Touching.{LedTo, IsBrought}
use Rattle.links.specs.Leaving.{word_index}
use Rattle.plain_heap.specs.declared.extent.Extent.{Extent}
use Rattle.plain_heap.specs.PlainContents.{PlainContents}
use Rattle.plain_heap.specs.Standing.{StandsFor}

-- the object with this base has its flag
abbrev pub IsFlagged : ℕ → List Bool → ℕ → Type 0
IsFlagged origin flags base = slice_index_or flags (word_index origin base) false ≡ true

-- there is a flag for each word of so many pages
abbrev pub HasFlags : ℕ → List Bool → Type 0
HasFlags pages flags = PAGE_WORDS * pages ≤ length flags

-- The flags of the marked objects of a row are set, and all others are as they were.
pub record FlagsMarked (origin : ℕ) (row : List Extent) (marks old new : List Bool) : Type 0 where
  pub size : length new ≡ length old
  pub keeps : (k : ℕ) → slice_index_or old k false ≡ true → slice_index_or new k false ≡ true
  pub sets : (i : ℕ) (e : Extent) → slice_get row i ≡ Some e → slice_index_or marks i false ≡ true → word_index origin e.base < length old → IsFlagged origin new e.base
  pub only : (k : ℕ) → slice_index_or new k false ≡ true → (slice_index_or old k false ≡ true) ⊎ ((i : ℕ) × (e : Extent) × (slice_get row i ≡ Some e) × (slice_index_or marks i false ≡ true) × (word_index origin e.base ≡ k))

-- Of each heap that the plain heap stands for exactly the reached objects have their flags.
abbrev pub FlagsReached : PlainContents → List Bool → Type 0
FlagsReached c flags = HasFlags c.pages flags → (s : Heap) → StandsFor c s → (base : ℕ) (o : Object) → HasObject s base o → IsFlagged c.origin flags base ↔ Reached s base

-- The word leads to objects with flags alone, if what it points into has one.
abbrev pub LeadsToFlagged : ℕ → Heap → List Bool → ℕ → Type 0
LeadsToFlagged origin s flags w = (at : ℕ) (o : Object) → PointsIntoObject s w at o → IsFlagged origin flags at → (base : ℕ) → LedTo s w base → IsFlagged origin flags base

-- Flags are set for what the word leads to, and no other.
pub record FlagsLed (c : PlainContents) (w : ℕ) (old new : List Bool) : Type 0 where
  pub size : length new ≡ length old
  pub keeps : (base : ℕ) → IsFlagged c.origin old base → IsFlagged c.origin new base
  pub only : (s : Heap) → StandsFor c s → (base : ℕ) (o : Object) → HasObject s base o → IsFlagged c.origin new base → IsFlagged c.origin old base ⊎ LedTo s w base
  pub adds : HasFlags c.pages old → (s : Heap) → StandsFor c s → LeadsToFlagged c.origin s old w → (base : ℕ) → LedTo s w base → IsFlagged c.origin new base

-- every object without a flag is among these
abbrev pub NamesUnflagged : ℕ → Heap → List Bool → List ℕ → Type 0
NamesUnflagged origin s flags bases = (base : ℕ) (o : Object) → HasObject s base o → (IsFlagged origin flags base → ⊥) → Contains bases base

-- Of each heap that the plain heap stood for the objects with these bases are gone, none of which is reached, and no object
-- without a flag is left.
abbrev pub ForgetsUnflagged : PlainContents → List Bool → List ℕ → PlainContents → Type 0
ForgetsUnflagged old flags bases new = (s : Heap) → StandsFor old s → (s' : Heap) × TakesOut s bases (Count (length bases)) s' × NamesUnflagged old.origin s flags bases × StandsFor new s'

-- Of no heap that the plain heap stands for these can be taken out: they are not the bases of distinct objects, or one is
-- reached, or one without a flag isn't among them.
abbrev pub CantForget : PlainContents → List Bool → List ℕ → Type 0
CantForget c flags bases = (s : Heap) → StandsFor c s → (n : ℕ) (s' : Heap) → TakesOut s bases (Count n) s' → NamesUnflagged c.origin s flags bases → ⊥

-- Flags are set for what the one word leads to that a call of the slot may have brought, unless it is a request, and for no
-- other. The plain heap is the one after the call.
pub record FlagsBrought (c : PlainContents) (slot : ℕ) (call : Call) (old new : List Bool) : Type 0 where
  pub size : length new ≡ length old
  pub keeps : (base : ℕ) → IsFlagged c.origin old base → IsFlagged c.origin new base
  pub only : (s s' : Heap) → StandsFor c s' → (base : ℕ) (o : Object) → HasObject s' base o → IsFlagged c.origin new base → IsFlagged c.origin old base ⊎ ((w : ℕ) × IsBrought s slot call s' w × LedTo s' w base)
  pub adds : IsNoAlloc call → HasFlags c.pages old → (s s' : Heap) → StandsFor c s' → (w : ℕ) → IsBrought s slot call s' w → LeadsToFlagged c.origin s' old w → (base : ℕ) → LedTo s' w base → IsFlagged c.origin new base
