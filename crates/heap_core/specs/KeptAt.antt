-- The object of a heap that a word points into, and where a core keeps it.
use Rattle.std.specs.Prelude.{◌≡◌, ℕ, length}
use Rattle.heap_spec.specs.Heap.{Heap, Object, PointsIntoObject, PointsIntoNothing}
use Rattle.block_map.specs.declared.found.Found.{Found}
use Rattle.heap_core.specs.CoreContents.{CoreContents}
use Rattle.heap_core.specs.Standing.{StandsFor}

-- The word points into an object of the heap with this base, of this length and kind.
pub record PointsIntoFound (s : Heap) (w : ℕ) (f : Found) : Type 0 where
  pub object : Object
  pub reads : PointsIntoObject s w f.base object
  pub size : length object.words ≡ f.len
  pub kind : object.kind ≡ f.kind

-- of each heap that the core stands for the word points into this object
abbrev pub IsKeptAt : CoreContents → ℕ → Found → Type 0
IsKeptAt c w f = (s : Heap) → StandsFor c s → PointsIntoFound s w f

-- of no heap that the core stands for the word points into an object
abbrev pub KeepsNothingAt : CoreContents → ℕ → Type 0
KeepsNothingAt c w = (s : Heap) → StandsFor c s → PointsIntoNothing s w
