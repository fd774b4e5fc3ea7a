-- Which objects are reached, told by where they stand in the row of objects.
use Rattle.std.specs.Prelude.{◌≡◌, ℕ, Bool, true, false, Some, List, [], Contains, slice_get, slice_index_or}
use Rattle.words.specs.declared.class.Kind.{Kind}
use Rattle.words.specs.declared.class.Kind.TheVariants.{Normal, PointerFree}
use Rattle.heap_spec.specs.Layout.{PointsInto}
use Rattle.plain_heap.specs.declared.extent.Extent.{Extent}
use Rattle.plain_heap.specs.Standing.{words_at}

-- the word points into the object of this index in the row
abbrev pub PointsIntoNth : List Extent → ℕ → ℕ → Type 0
PointsIntoNth row w i = (e : Extent) × (slice_get row i ≡ Some e) × PointsInto w e.base e.length

-- No word points into two objects.
pub record AreApart (row : List Extent) : Type 0 where
  pub one : (w i j : ℕ) → PointsIntoNth row w i → PointsIntoNth row w j → i ≡ j

-- the words that are read of an object of a kind
abbrev pub read_words : Kind → List ℕ → List ℕ
read_words Normal words = words
read_words PointerFree words = []

-- the words that are read of an object
abbrev pub links_of : ℕ → List ℕ → Extent → List ℕ
links_of origin words e = read_words e.kind (words_at origin words e)

-- The reached objects: those that root words point into, and with each of them those that its words point into.
pub data IsReachedNth (origin : ℕ) (roots words : List ℕ) (row : List Extent) : ℕ → Type 0 where
  by_root : {w i : ℕ} → Contains roots w → PointsIntoNth row w i → IsReachedNth origin roots words row i
  by_link : {i w j : ℕ} {e : Extent} → IsReachedNth origin roots words row i → slice_get row i ≡ Some e → Contains (links_of origin words e) w → PointsIntoNth row w j → IsReachedNth origin roots words row j

-- A row marks exactly the reached objects.
pub record MarksReached (origin : ℕ) (roots words : List ℕ) (row : List Extent) (marks : List Bool) : Type 0 where
  pub marked : (i : ℕ) → IsReachedNth origin roots words row i → slice_index_or marks i false ≡ true
  pub reached : (i : ℕ) → slice_index_or marks i false ≡ true → IsReachedNth origin roots words row i
