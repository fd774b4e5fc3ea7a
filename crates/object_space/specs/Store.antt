-- Where the objects are, and what is true of it.
use Rattle.std.specs.Prelude.{◌≡◌, ℕ, Some, ◌<◌, Bool, List, length}
use Rattle.words.specs.Bits.{Has}
use Rattle.heap_spec.specs.Layout.{LiesOn}
use Rattle.block_map.specs.States.{PageState, state_at, IsCut}
use Rattle.block_map.specs.Listed.{AreListed}
use Rattle.block_map.specs.FoundIn.{found_in}
use Rattle.block_map.specs.declared.found.Found.{Found}
use Rattle.lazy_sweep.specs.AvailableRows.{AreReady, AreWaiting}
use Rattle.lazy_sweep.specs.Store.{Agree, HasObjects}
pub use Rattle.lazy_sweep.specs.Store.{Store}

-- The row has exactly the pages on which no allocated object lies, be it kept or forgotten.
pub record AreEmptyPages (row : List Bool) (states : List PageState) : Type 0 where
  pub all : (page : ℕ) → page < length states → ((w : ℕ) (f : Found) → found_in states w ≡ Some f → LiesOn f.base f.len page → ⊥) → Has row page
  pub only : (page : ℕ) → Has row page → (w : ℕ) (f : Found) → found_in states w ≡ Some f → LiesOn f.base f.len page → ⊥

-- What is true of the pages of each store.
pub record HasSoundPages (t : Store) : Type 0 where
  pub agree : Agree t.free t.states
  pub used : HasObjects t.states

-- The pending pages are cut.
pub record IsPendingRow (t : Store) : Type 0 where
  pub size : length t.pending ≡ length t.states
  pub cut : (page : ℕ) → Has t.pending page → IsCut (state_at t.states page)

-- no page is pending
abbrev pub IsSwept : Store → Type 0
IsSwept t = (page : ℕ) → Has t.pending page → ⊥

-- What is true of the objects of each heap: their store is sound, the lists of free cells stand in its words, the rows of
-- pages that are ready and of those that wait for a sweep are exact, and the pending pages are cut.
pub record IsWholeSpace (t : Store) (ready waiting : List (List Bool)) : Type 0 where
  pub sound : HasSoundPages t
  pub listed : AreListed t.words t.states
  pub exact : AreReady ready t.states t.pending
  pub awaited : AreWaiting waiting t.states t.pending
  pub pending : IsPendingRow t

-- The store is whole with some rows of ready and of waiting pages.
pub record IsWholeStore (t : Store) : Type 0 where
  pub ready : List (List Bool)
  pub waiting : List (List Bool)
  pub whole : IsWholeSpace t ready waiting
