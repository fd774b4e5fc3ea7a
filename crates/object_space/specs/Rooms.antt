-- Where the store has room, and how much a request may ask for.
use Rattle.std.specs.Prelude.{ℕ, ◌*◌, ◌<◌, ◌≤◌, Bool, true}
use Rattle.words.specs.declared.class.Kind.{Kind}
use Rattle.words.specs.declared.class.Placement.{Placement}
use Rattle.words.specs.declared.class.Placement.TheVariants.{Small, Large}
use Rattle.words.specs.declared.limits.TheConstants.{PAGE_WORDS, MOST_REQUEST_WORDS}
use Rattle.heap_spec.specs.Heap.{Heap}
use Rattle.heap_spec.specs.Room.{HasRoom}
use Rattle.object_space.specs.Store.{Store}
use Rattle.block_map.specs.declared.found.Found.{Found}
use Rattle.object_space.specs.Stores.{Stores}

-- The base has room in each heap whose objects are among the store's.
abbrev pub HasRoomAt : Store → Placement → Kind → ℕ → Type 0
HasRoomAt t placement kind base = (keep : Found → Bool) (s : Heap) → Stores keep t s → HasRoom s placement kind base

-- No address has room in a heap that has all the objects of the store.
abbrev pub HasNoRoom : Store → Placement → Kind → Type 0
HasNoRoom t placement kind = (s : Heap) → Stores (λ _. true) t s → (a : ℕ) → HasRoom s placement kind a → ⊥

-- the pages of a large request: some, and no more than the largest request has
abbrev pub IsRequest : Placement → Type 0
IsRequest (Small class) = Unit {0}
IsRequest (Large pages) = (0 < pages) × (PAGE_WORDS * pages ≤ MOST_REQUEST_WORDS)
