-- Paths from roots to objects.
use Rattle.std.specs.Prelude.{◌≡◌, ◌<◌, ℕ, Option, Some, None, List, [], ◌∷◌, ◌++◌, length, slice_get}
use Rattle.std.specs.Global.{Vec}
use Rattle.words.specs.declared.class.Kind.TheVariants.{Normal}
use Rattle.heap_spec.specs.Heap.{Heap, Object, HasObject}
use Rattle.heap_spec.specs.Closure.{Reached}
use Rattle.roots.specs.declared.finding.Root.{Root}
use Rattle.roots.specs.Roots.{RootSet}
use Rattle.roots.specs.Finding.{IsInto, RootsHave}
use Rattle.plain_heap.specs.declared.extent.Extent.{Extent}
use Rattle.plain_heap.specs.declared.keepers.Keeper.TheVariants.{ByRoot, ByWord}
use Rattle.plain_heap.specs.declared.paths.PathStep.{PathStep}
use Rattle.plain_heap.specs.Keepers.{roots_of, IsLinkInto}

-- A path leads to the object with a base: a root points into it, or a path leads to a Normal object, one of whose words does.
pub data IsPath (s : Heap) : List PathStep → ℕ → Type 0 where
  from_root : {root : Root} {base : ℕ} {o : Object} → HasObject s base o → RootsHave (roots_of s) root base (length o.words)
      → IsPath s (record { keeper = ByRoot root; base = base } ∷ []) base
  from_word : (path : List PathStep) (from index base : ℕ) {holder o : Object} → IsPath s path from → HasObject s from holder → holder.kind ≡ Normal
      → HasObject s base o → IsInto holder.words index base (length o.words)
      → IsPath s (path ++ record { keeper = ByWord from index; base = base } ∷ []) base

-- a path to the object with the base, which then is reached, or none, and then it isn't
abbrev pub TellsPath : Heap → ℕ → Option (Vec PathStep) → Type 0
TellsPath s base None = Reached s base → ⊥
TellsPath s base (Some path) = IsPath s path.items base × Reached s base

-- A step is from a root, to the row's object at one place.
pub record IsRootStep (roots : RootSet) (row : List Extent) (own : ℕ) (step : PathStep) : Type 0 where
  pub object : Extent
  pub there : slice_get row own ≡ Some object
  pub to : step.base ≡ object.base
  pub root : Root
  pub by : step.keeper ≡ ByRoot root
  pub has : RootsHave roots root object.base object.length

-- A step is from a word of the row's object at one place, to that at another.
pub record IsWordStep (origin : ℕ) (words : List ℕ) (row : List Extent) (position own : ℕ) (step : PathStep) : Type 0 where
  pub object : Extent
  pub there : slice_get row own ≡ Some object
  pub to : step.base ≡ object.base
  pub from : ℕ
  pub index : ℕ
  pub by : step.keeper ≡ ByWord from index
  pub into : IsLinkInto origin words row own object position from index

-- Steps lead from a root to the row's object at a place.
pub data IsRowPath (origin : ℕ) (roots : RootSet) (words : List ℕ) (row : List Extent) : List PathStep → ℕ → Type 0 where
  row_root : {own : ℕ} (step : PathStep) → IsRootStep roots row own step → IsRowPath origin roots words row (step ∷ []) own
  row_word : (path : List PathStep) {position own : ℕ} (step : PathStep) → IsRowPath origin roots words row path position → IsWordStep origin words row position own step → IsRowPath origin roots words row (path ++ step ∷ []) own

-- A path that is found from its end goes on by a step from a root to the object at a place of the list.
pub record EndsAtRoot (roots : RootSet) (row : List Extent) (order : List ℕ) (place : ℕ) (old new : List PathStep) : Type 0 where
  pub own : ℕ
  pub at : slice_get order place ≡ Some own
  pub step : PathStep
  pub put : new ≡ old ++ step ∷ []
  pub is_step : IsRootStep roots row own step

-- The same by a step from a word of an object that is listed before.
pub record GoesBack (origin : ℕ) (words : List ℕ) (row : List Extent) (order : List ℕ) (place : ℕ) (old new : List PathStep) (before : ℕ) : Type 0 where
  pub own : ℕ
  pub at : slice_get order place ≡ Some own
  pub earlier : before < place
  pub position : ℕ
  pub before_at : slice_get order before ≡ Some position
  pub step : PathStep
  pub put : new ≡ old ++ step ∷ []
  pub is_step : IsWordStep origin words row position own step

-- The path ends at a root, or goes back to an object that is listed before.
abbrev pub StepsBack : ℕ → RootSet → List ℕ → List Extent → List ℕ → ℕ → List PathStep → List PathStep → Option ℕ → Type 0
StepsBack origin roots words row order place old new None = EndsAtRoot roots row order place old new
StepsBack origin roots words row order place old new (Some before) = GoesBack origin words row order place old new before
