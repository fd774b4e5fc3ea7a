-- Objects that go, and objects that come, as changes of the store.
use Rattle.std.specs.Prelude.{◌≡◌, ◌↔◌, ℕ, ◌<◌, ◌≢◌, Bool, false, slice_index_or, List, length, Contains, All, nat_eq, Option, Some}
use Rattle.std.specs.List.{IsDistinct}
use Rattle.words.specs.declared.limits.TheConstants.{PAGE_WORDS}
use Rattle.words.specs.declared.class.Kind.{Kind}
use Rattle.words.specs.declared.class.Placement.{Placement}
use Rattle.heap_spec.specs.Room.{length_of}
use Rattle.words.specs.Bits.{Has}
use Rattle.words.specs.Layout.{granule}
use Rattle.object_space.specs.Store.{IsSwept, Store}
use Rattle.object_space.specs.Rooms.{HasRoomAt, HasNoRoom}
use Rattle.object_space.specs.Kept.{kept_in, IsPendingAfter}
use Rattle.block_map.specs.declared.found.Found.{Found}
use Rattle.block_map.specs.Changes.{IsAdded, IsRemoved}
use Rattle.block_map.specs.FoundIn.{found_in}
use Rattle.block_map.specs.Objects.{IsMap}
use Rattle.marker.specs.Marking.{Marking, IsMarked}
use Rattle.marker.specs.Closure.{Closure}
use Rattle.marker.specs.Mutations.{KeepsWords, HasZeroWords}
pub use Rattle.lazy_sweep.specs.Sweeps.{Sweeps, SweepsAny}

-- The objects with these bases are gone, and nothing else has changed.
pub record IsWithout (found after : ℕ → Option Found) (bases : List ℕ) : Type 0 where
  pub gone : All (λ b. (f : Found) × (found b ≡ Some f) × (f.base ≡ b)) bases
  pub distinct : IsDistinct nat_eq bases
  pub left : (w : ℕ) (f : Found) → after w ≡ Some f → (found w ≡ Some f) × (Contains bases f.base → ⊥)
  pub kept : (w : ℕ) (f : Found) → found w ≡ Some f → (Contains bases f.base → ⊥) → after w ≡ Some f

-- The store has lost one object, and nothing else. The words of the others stay, and of their pages the same are pending.
pub record Loses (old : Store) (f : Found) (new : Store) : Type 0 where
  pub words : KeepsWords (found_in new.states) old.words new.words
  pub pages : length new.states ≡ length old.states
  pub removed : IsRemoved (found_in old.states) (found_in new.states) f
  pub row_size : length new.pending ≡ length old.pending
  pub rest : (p : ℕ) → p ≢ f.page → slice_index_or new.pending p false ≡ slice_index_or old.pending p false
  pub fewer : (page : ℕ) → Has new.pending page → Has old.pending page
  pub pending : (w : ℕ) (g : Found) → found_in new.states w ≡ Some g → slice_index_or new.pending g.page false ≡ slice_index_or old.pending g.page false

-- The store has got one object, whose words are 0. The words of the others stay, and nothing else has changed.
pub record Gains (old : Store) (placement : Placement) (kind : Kind) (base : ℕ) (new : Store) : Type 0 where
  pub object : Found
  pub at : object.base ≡ base
  pub size : object.len ≡ length_of placement
  pub of_kind : object.kind ≡ kind
  pub pages : length new.states ≡ length old.states
  pub before : IsMap (length old.states) (found_in old.states)
  pub map : IsMap (length new.states) (found_in new.states)
  pub found : found_in new.states base ≡ Some object
  pub added : IsAdded (found_in old.states) (found_in new.states) object
  pub zeroed : HasZeroWords new.words object
  pub words : KeepsWords (found_in old.states) old.words new.words
  pub pending : new.pending ≡ old.pending
  pub swept : slice_index_or old.pending object.page false ≡ false

-- To the heap exactly the objects outside of the closure of the marks and the roots are gone, so many. The others are marked
-- now, and their words stay.
pub record ForgetsUnreached (old : Store) (roots : List ℕ) (marking : Marking) (n : ℕ) (marks : List Bool) (new : Store) : Type 0 where
  pub words : KeepsWords (kept_in new.states new.pending marks) old.words new.words
  pub pages : length new.states ≡ length old.states
  pub bases : List ℕ
  pub number : n ≡ length bases
  pub without : IsWithout (found_in old.states) (kept_in new.states new.pending marks) bases
  pub outside : (f : Found) → found_in old.states f.base ≡ Some f → Contains bases f.base ↔ (Closure (found_in old.states) old.words roots (IsMarked marking) f → ⊥)
  pub marked : (f : Found) → kept_in new.states new.pending marks f.base ≡ Some f → Has marks (granule f.base)

-- Once pages were swept as it needed, a place was taken for an object.
pub record Allocates (old : Store) (marks : List Bool) (placement : Placement) (kind : Kind) (base : ℕ) (new : Store) : Type 0 where
  pub ready : Store
  pub sweeps : Sweeps old marks ready
  pub room : HasRoomAt ready placement kind base
  pub gains : Gains ready placement kind base new

-- Pages were swept, and no address has room for all the objects that are there now.
pub record FindsNoPlace (old : Store) (marks : List Bool) (placement : Placement) (kind : Kind) (new : Store) : Type 0 where
  pub sweeps : Sweeps old marks new
  pub none : HasNoRoom new placement kind

-- All pages were swept, and no address has room.
pub record FindsNoRoom (old : Store) (marks : List Bool) (placement : Placement) (kind : Kind) (new : Store) : Type 0 where
  pub sweeps : Sweeps old marks new
  pub swept : IsSwept new
  pub none : HasNoRoom new placement kind

-- No object has come, and each small one still has its cell: it goes when its page is swept.
pub record KeepsCells (old new : Store) : Type 0 where
  pub less : (w : ℕ) (f : Found) → found_in new.states w ≡ Some f → found_in old.states w ≡ Some f
  pub small : (w : ℕ) (f : Found) → found_in old.states w ≡ Some f → f.len < PAGE_WORDS → found_in new.states w ≡ Some f

-- Each unmarked object is forgotten, so many: the large ones are gone from the map, and the pages of the others are
-- pending. The words of the objects of the map stay, and nothing else has changed.
pub record ForgetsLazily (old : Store) (marks : List Bool) (n : ℕ) (new : Store) : Type 0 where
  pub words : KeepsWords (found_in new.states) old.words new.words
  pub pages : length new.states ≡ length old.states
  pub cells : KeepsCells old new
  pub pending : IsPendingAfter new.states marks new.pending
  pub bases : List ℕ
  pub number : n ≡ length bases
  pub without : IsWithout (found_in old.states) (kept_in new.states new.pending marks) bases
  pub unmarked : (f : Found) → found_in old.states f.base ≡ Some f → Contains bases f.base ↔ (Has marks (granule f.base) → ⊥)
