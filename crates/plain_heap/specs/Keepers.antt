-- What keeps an object reached.
use Rattle.std.specs.Prelude.{◌≡◌, ℕ, Option, Some, None, List, length, slice_get}
use Rattle.words.specs.declared.class.Kind.TheVariants.{Normal}
use Rattle.heap_spec.specs.Heap.{Heap, Object, HasObject}
use Rattle.heap_spec.specs.Closure.{Reached}
use Rattle.roots.specs.Roots.{RootSet}
use Rattle.roots.specs.Finding.{IsInto, AreNotInto, RootsHave}
use Rattle.plain_heap.specs.declared.extent.Extent.{Extent}
use Rattle.plain_heap.specs.declared.keepers.Keeper.{Keeper}
use Rattle.plain_heap.specs.declared.keepers.Keeper.TheVariants.{ByRoot, ByWord}
use Rattle.plain_heap.specs.Reached.{links_of}

-- the roots of a heap
abbrev pub roots_of : Heap → RootSet
roots_of s = record { mutators = s.mutators; globals = s.globals; request_words = s.request_words }

-- The word of one index in another object, which is reached and whose words the collector reads, points into the object with
-- this base and so many words.
pub record IsHeld (s : Heap) (base size from index : ℕ) : Type 0 where
  pub other : from ≡ base → ⊥
  pub reached : Reached s from
  pub holder : Object
  pub has : HasObject s from holder
  pub normal : holder.kind ≡ Normal
  pub into : IsInto holder.words index base size

-- a root points into the object with this base and so many words, or a word of another object does
abbrev pub Keeps : Heap → Keeper → ℕ → ℕ → Type 0
Keeps s (ByRoot root) base size = RootsHave (roots_of s) root base size
Keeps s (ByWord from index) base size = IsHeld s base size from index

-- this keeps the object with the base
abbrev pub IsKeptBy : Heap → ℕ → Keeper → Type 0
IsKeptBy s base keeper = (o : Object) × HasObject s base o × Keeps s keeper base (length o.words)

-- what keeps the object with the base, or else it isn't reached
abbrev pub TellsKeeper : Heap → ℕ → Option Keeper → Type 0
TellsKeeper s base None = Reached s base → ⊥
TellsKeeper s base (Some keeper) = IsKeptBy s base keeper

-- The word of one index in the row's object at another place points into the object at its own.
pub record IsLinkInto (origin : ℕ) (words : List ℕ) (row : List Extent) (own : ℕ) (e : Extent) (position from index : ℕ) : Type 0 where
  pub holder : Extent
  pub there : slice_get row position ≡ Some holder
  pub is_base : holder.base ≡ from
  pub other : position ≡ own → ⊥
  pub into : IsInto (links_of origin words holder) index e.base e.length

-- it keeps the object by such a word
abbrev pub IsLinkAt : ℕ → List ℕ → List Extent → ℕ → Extent → ℕ → Keeper → Type 0
IsLinkAt origin words row own e position (ByRoot root) = ⊥
IsLinkAt origin words row own e position (ByWord from index) = IsLinkInto origin words row own e position from index

-- the object at this place is the object itself, or none of its words points into it
abbrev pub HasNoLink : ℕ → List ℕ → List Extent → ℕ → Extent → ℕ → Type 0
HasNoLink origin words row own e position = (f : Extent) → slice_get row position ≡ Some f → (position ≡ own → ⊥) → AreNotInto (links_of origin words f) e.base e.length
