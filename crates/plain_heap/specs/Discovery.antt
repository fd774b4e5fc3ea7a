-- In which order objects are listed.
use Rattle.std.specs.Prelude.{◌≡◌, ◌<◌, ℕ, Some, List, Contains, slice_get}
use Rattle.plain_heap.specs.declared.extent.Extent.{Extent}
use Rattle.plain_heap.specs.Reached.{PointsIntoNth, links_of}

-- What leads to the object at one place of the row: a root word, or a word of an object that is listed before a place of the list.
pub data IsLedTo (origin : ℕ) (roots words : List ℕ) (row : List Extent) (order : List ℕ) (place i : ℕ) : Type 0 where
  by_root : {w : ℕ} → Contains roots w → PointsIntoNth row w i → IsLedTo origin roots words row order place i
  by_earlier : {before from w : ℕ} {e : Extent} → before < place → slice_get order before ≡ Some from → slice_get row from ≡ Some e → Contains (links_of origin words e) w → PointsIntoNth row w i → IsLedTo origin roots words row order place i

-- A root word leads to each object on the list, or else a word of an object that is listed before it.
pub record IsDiscovered (origin : ℕ) (roots words : List ℕ) (row : List Extent) (order : List ℕ) : Type 0 where
  pub led : (place i : ℕ) → slice_get order place ≡ Some i → IsLedTo origin roots words row order place i
