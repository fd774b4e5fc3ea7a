-- What is wrong where the objects with some bases are said to be gone.
use Rattle.std.specs.Prelude.{◌≡◌, ◌⊎◌, ◌↔◌, ℕ, ◌<◌, ◌≤◌, Bool, true, false, Option, Some, None, List, All, Contains, take, slice_get, slice_index_or}
use Rattle.heap_spec.specs.Heap.{Heap, Object, HasObject}
use Rattle.heap_spec.specs.Closure.{Reached}
use Rattle.plain_heap.specs.declared.extent.Extent.{Extent}
use Rattle.plain_heap.specs.declared.wrongs.Wrong.{Wrong}
use Rattle.plain_heap.specs.declared.wrongs.Wrong.TheVariants.{IsMissing, StandsTwice, HasToStay, HasToGo}
use Rattle.plain_heap.specs.PlainContents.{PlainContents}
use Rattle.plain_heap.specs.Standing.{StandsFor}
use Rattle.plain_heap.specs.Flags.{IsFlagged}

-- the base of the object of which something is said
abbrev pub base_of : Wrong → ℕ
base_of (IsMissing base) = base
base_of (StandsTwice base) = base
base_of (HasToStay base) = base
base_of (HasToGo base) = base

-- This holds, and none that holds is of a lower base.
pub record IsLowest (Holds : Wrong → Type 0) (wrong : Wrong) : Type 0 where
  pub holds : Holds wrong
  pub lowest : (other : Wrong) → Holds other → base_of wrong ≤ base_of other

-- the lowest of those that hold, or none does
abbrev pub TellsLowest : (Wrong → Type 0) → Option Wrong → Type 0
TellsLowest Holds None = (other : Wrong) → Holds other → ⊥
TellsLowest Holds (Some wrong) = IsLowest Holds wrong

-- The objects with these bases are said to be gone. What is wrong about that, where some objects have to stay and others have
-- to go: a base of no object, one that stands in the list before, an object that has to stay, and one that has to go and isn't named.
abbrev pub IsWrong : Heap → (ℕ → Object → Type 0) → (ℕ → Object → Type 0) → List ℕ → Wrong → Type 0
IsWrong s Stays Goes bases (IsMissing base) = Contains bases base × ((o : Object) → HasObject s base o → ⊥)
IsWrong s Stays Goes bases (StandsTwice base) = (i : ℕ) × (slice_get bases i ≡ Some base) × Contains (take i bases) base
IsWrong s Stays Goes bases (HasToStay base) = Contains bases base × ((o : Object) × HasObject s base o × Stays base o)
IsWrong s Stays Goes bases (HasToGo base) = (Contains bases base → ⊥) × ((o : Object) × HasObject s base o × Goes base o)

-- the lowest of what is wrong in each heap that the plain heap stands for, where what is reached has to stay and all else has to go
abbrev pub TellsUncollected : PlainContents → List ℕ → Option Wrong → Type 0
TellsUncollected c bases wrong = (s : Heap) → StandsFor c s → TellsLowest (IsWrong s (λ base o. Reached s base) (λ base o. Reached s base → ⊥) bases) wrong

-- the same where only what has no flag has to go
abbrev pub TellsUnforgotten : PlainContents → List Bool → List ℕ → Option Wrong → Type 0
TellsUnforgotten c flags bases wrong = (s : Heap) → StandsFor c s → TellsLowest (IsWrong s (λ base o. Reached s base) (λ base o. IsFlagged c.origin flags base → ⊥) bases) wrong

-- the one with the lower base
abbrev pub IsLowerThan : Wrong → Option Wrong → Wrong → Type 0
IsLowerThan first None result = result ≡ first
IsLowerThan first (Some second) result = ((base_of first ≤ base_of second) × (result ≡ first)) ⊎ ((base_of second ≤ base_of first) × (result ≡ second))

abbrev pub IsLowerOf : Option Wrong → Option Wrong → Option Wrong → Type 0
IsLowerOf None other result = result ≡ other
IsLowerOf (Some first) other result = (wrong : Wrong) × (result ≡ Some wrong) × IsLowerThan first other wrong

-- it holds of one of the first indices
abbrev pub IsBelow : (ℕ → Wrong → Type 0) → ℕ → Wrong → Type 0
IsBelow Holds count wrong = (i : ℕ) × (i < count) × Holds i wrong

-- a marked object of the row has this base
abbrev pub IsMarkedBase : List Extent → List Bool → ℕ → Type 0
IsMarkedBase row marks base = (i : ℕ) × (e : Extent) × (slice_get row i ≡ Some e) × (e.base ≡ base) × (slice_index_or marks i false ≡ true)

-- what is wrong about the base of one index in the list
abbrev pub IsNamedAt : List Extent → List Bool → List ℕ → ℕ → Wrong → Type 0
IsNamedAt row marks bases i (IsMissing base) = (slice_get bases i ≡ Some base) × All (λ e. e.base ≡ base → ⊥) row
IsNamedAt row marks bases i (StandsTwice base) = (slice_get bases i ≡ Some base) × Contains (take i bases) base
IsNamedAt row marks bases i (HasToStay base) = (slice_get bases i ≡ Some base) × IsMarkedBase row marks base
IsNamedAt row marks bases i (HasToGo base) = ⊥

-- what is wrong about the object of one index in the row: its flag is set, and it isn't marked
abbrev pub IsLeftAt : List Extent → List Bool → List Bool → ℕ → Wrong → Type 0
IsLeftAt row marks stays i (IsMissing base) = ⊥
IsLeftAt row marks stays i (StandsTwice base) = ⊥
IsLeftAt row marks stays i (HasToStay base) = ⊥
IsLeftAt row marks stays i (HasToGo base) = (e : Extent) × (slice_get row i ≡ Some e) × (e.base ≡ base) × (slice_index_or marks i false ≡ false) × (slice_index_or stays i false ≡ true)

-- exactly the objects that have no flag are not marked
abbrev pub MarksFlagged : ℕ → List Extent → List Bool → List Bool → Type 0
MarksFlagged origin row flags marks = (i : ℕ) (e : Extent) → slice_get row i ≡ Some e → (slice_index_or marks i false ≡ false) ↔ (IsFlagged origin flags e.base → ⊥)
