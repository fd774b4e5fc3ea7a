-- Flags of the old objects, and what these lead to.
use Rattle.std.specs.Prelude.{◌≡◌, ◌≢◌, ◌↔◌, ℕ, ◌≤◌, Bool, List, ◌++◌, Contains, length}
use Rattle.heap_spec.specs.Heap.{Heap, Object, HasObject}
use Rattle.heap_spec.specs.Closure.{Closure}
use Rattle.plain_heap.specs.declared.extent.Extent.{Extent}
use Rattle.plain_heap.specs.declared.listing.Listing.{Listing}
use Rattle.plain_heap.specs.PlainContents.{PlainContents}
use Rattle.plain_heap.specs.Standing.{StandsFor}
use Rattle.plain_heap.specs.Flags.{IsFlagged, HasFlags}
use Rattle.plain_heap.specs.Listing.{ListsAll}
use Rattle.plain_heap.specs.Reached.{MarksReached}

-- Exactly the objects that were born up to one birth have their flags.
abbrev pub TellOld : ℕ → Heap → List Bool → ℕ → Type 0
TellOld origin s flags last = (base : ℕ) (o : Object) → HasObject s base o → IsFlagged origin flags base ↔ (o.birth ≤ last)

-- each object of each heap that the plain heap stands for has its flag
abbrev pub FlagsAll : PlainContents → List Bool → Type 0
FlagsAll c flags = HasFlags c.pages flags → (s : Heap) → StandsFor c s → (base : ℕ) (o : Object) → HasObject s base o → IsFlagged c.origin flags base

-- The object at the base has no flag, and the flags of all others are as they were.
pub record FlagUnset (c : PlainContents) (base : ℕ) (old new : List Bool) : Type 0 where
  pub size : length new ≡ length old
  pub unset : (s : Heap) → StandsFor c s → (o : Object) → HasObject s base o → IsFlagged c.origin new base → ⊥
  pub others : (s : Heap) → StandsFor c s → (o : Object) → HasObject s base o → (at : ℕ) (p : Object) → HasObject s at p → at ≢ base → IsFlagged c.origin new at ↔ IsFlagged c.origin old at

-- Where flags tell the old objects of a heap, these tell what roots or the old objects lead to.
abbrev pub FlagsClosure : PlainContents → List Bool → List Bool → Type 0
FlagsClosure c aged flags = HasFlags c.pages flags → (s : Heap) → StandsFor c s → (last : ℕ) → TellOld c.origin s aged last
    → (base : ℕ) (o : Object) → HasObject s base o → IsFlagged c.origin flags base ↔ Closure s (λ birth. birth ≤ last) base

-- These are the bases of the objects of the row that have their flags.
pub record AreFlaggedBases (origin : ℕ) (row : List Extent) (flags : List Bool) (bases : List ℕ) : Type 0 where
  pub all : (e : Extent) → Contains row e → IsFlagged origin flags e.base → Contains bases e.base
  pub only : (base : ℕ) → Contains bases base → (e : Extent) × Contains row e × (e.base ≡ base) × IsFlagged origin flags e.base

-- Those of some objects of a row that have their flags are listed.
pub record ListsFlagged (origin : ℕ) (row some : List Extent) (flags : List Bool) (old new : Listing) : Type 0 where
  pub bases : List ℕ
  pub are : AreFlaggedBases origin some flags bases
  pub lists : ListsAll row bases old new

-- A row marks exactly the objects that the roots or the objects with flags lead to.
pub record MarksClosure (origin : ℕ) (roots words : List ℕ) (row : List Extent) (flags marks : List Bool) : Type 0 where
  pub bases : List ℕ
  pub are : AreFlaggedBases origin row flags bases
  pub marks_all : MarksReached origin (roots ++ bases) words row marks
