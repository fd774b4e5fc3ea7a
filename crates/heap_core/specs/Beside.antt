-- What calls of mutators tell the marker.
use Rattle.std.specs.Prelude.{◌≡◌, ◌≢◌, ℕ, ◌⊎◌, Bool, true, false, slice_index_or, length, Option, Some}
use Rattle.words.specs.Bits.{Has}
use Rattle.words.specs.Layout.{granule, page_of}
use Rattle.block_map.specs.Changes.{IsRemoved}
use Rattle.block_map.specs.declared.found.Found.{Found}
use Rattle.marker.specs.Marking.{Marking, IsMarked, AreMarksObjects}
use Rattle.marker.specs.Mutations.{IsFreed, StaysOnWrite, StaysOnAllocation, StaysOnFree, StaysCarriedOnWrite, StaysCarriedOnAllocation}

-- A word was written at the address: its page has become dirty, no other has, and the invariants stay.
pub record NotesWrite (address : ℕ) (old new : Marking) : Type 0 where
  pub marks : new.marks ≡ old.marks
  pub dirty_len : length new.dirty ≡ length old.dirty
  pub dirty : (p : ℕ) → Has new.dirty p → Has old.dirty p ⊎ (p ≡ page_of address)
  pub written : Has new.dirty (page_of address)
  pub stays_dirty : (p : ℕ) → Has old.dirty p → Has new.dirty p
  pub carried : new.carried ≡ old.carried
  pub current : new.current ≡ old.current
  pub stack : new.stack ≡ old.stack
  pub keeps : StaysOnWrite address old new
  pub carries : StaysCarriedOnWrite address old new

-- An object of zero words came at the base: while a cycle is marking it has become marked, and while none is nothing has
-- changed. The invariants stay.
pub record NotesObject (is_marking : Bool) (base : ℕ) (old new : Marking) : Type 0 where
  pub marks : (k : ℕ) → Has new.marks k → Has old.marks k ⊎ (k ≡ granule base)
  pub others : (k : ℕ) → k ≢ granule base → slice_index_or new.marks k false ≡ slice_index_or old.marks k false
  pub stays : (k : ℕ) → Has old.marks k → Has new.marks k
  pub marked : is_marking ≡ true → IsMarked new base
  pub dirty : new.dirty ≡ old.dirty
  pub current : new.current ≡ old.current
  pub stack : new.stack ≡ old.stack
  pub carried : new.carried ≡ old.carried
  pub idle : is_marking ≡ false → new ≡ old
  pub keeps : is_marking ≡ true → StaysOnAllocation base old new
  pub carries : is_marking ≡ true → StaysCarriedOnAllocation base old new

-- The object with this base has gone: it is marked no more, and a full cycle is needed. Each mark is still an object's, and the
-- dirty-page invariant stays.
pub record NotesFree (base : ℕ) (old new : Marking) (needs_full : Bool) : Type 0 where
  pub freed : IsFreed base old new
  pub objects : (found after : ℕ → Option Found) (f : Found) → f.base ≡ base → found base ≡ Some f → IsRemoved found after f → AreMarksObjects found old → AreMarksObjects after new
  pub keeps : StaysOnFree base old new
  pub needs : needs_full ≡ true
