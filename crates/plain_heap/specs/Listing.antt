-- A list of objects that grows.
use Rattle.std.specs.Prelude.{◌≡◌, ℕ, ◌≤◌, ◌<◌, Bool, true, false, List, ◌++◌, length, Contains, slice_index_or, nat_eq}
use Rattle.std.specs.List.{IsDistinct}
use Rattle.std.specs.Vec.{vec_capacity}
use Rattle.plain_heap.specs.declared.extent.Extent.{Extent}
use Rattle.plain_heap.specs.declared.listing.Listing.{Listing}
use Rattle.plain_heap.specs.Reached.{PointsIntoNth, AreApart}

-- there is room for so many objects
pub record HasListRoom (count : ℕ) (l : Listing) : Type 0 where
  pub marks : count ≤ length l.marks.items
  pub order : count ≤ vec_capacity l.order

-- What is taken for so many words beside them: for each an owner, and room for an object on the list and among the flags.
pub record HasMemory (words owners : ℕ) (listing : Listing) (stays : ℕ) : Type 0 where
  pub owned : words ≡ owners
  pub lists : HasListRoom owners listing
  pub flags : owners ≤ stays

-- Some of so many objects are on the list, each once, and the row marks these.
pub record IsListOf (count : ℕ) (order : List ℕ) (marks : List Bool) : Type 0 where
  pub below : (i : ℕ) → Contains order i → i < count
  pub distinct : IsDistinct nat_eq order
  pub marked : (i : ℕ) → Contains order i → slice_index_or marks i false ≡ true
  pub only : (i : ℕ) → slice_index_or marks i false ≡ true → Contains order i

-- The objects of the row are apart, there is room for them, and some are listed.
pub record IsListing (row : List Extent) (l : Listing) : Type 0 where
  pub apart : AreApart row
  pub room : HasListRoom (length row) l
  pub listed : IsListOf (length row) l.order.items l.marks.items

-- The list goes on by objects that some of the words point into, and then has all of these.
pub record ListGrows (row : List Extent) (words order order' : List ℕ) : Type 0 where
  pub more : List ℕ
  pub goes_on : order' ≡ order ++ more
  pub only : (i : ℕ) → Contains more i → (w : ℕ) × Contains words w × PointsIntoNth row w i
  pub all : (w i : ℕ) → Contains words w → PointsIntoNth row w i → Contains order' i

-- There is room for as many as before.
pub record KeepsRoom (old new : Listing) : Type 0 where
  pub marks : length new.marks.items ≡ length old.marks.items
  pub order : vec_capacity old.order ≤ vec_capacity new.order

-- All that the words point into are listed.
pub record ListsAll (row : List Extent) (words : List ℕ) (old new : Listing) : Type 0 where
  pub ready : IsListing row new
  pub goes : ListGrows row words old.order.items new.order.items
  pub room : KeepsRoom old new
