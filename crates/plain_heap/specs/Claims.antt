-- Objects that are named by their bases, to be taken out.
use Rattle.std.specs.Prelude.{◌≡◌, ℕ, ◌≤◌, Bool, false, Some, List, length, Contains, slice_get, slice_index_or}
use Rattle.plain_heap.specs.declared.extent.Extent.{Extent}

-- The flags of the objects with these bases are unset, and all others are set.
pub record AreUnset (row : List Extent) (bases : List ℕ) (flags : List Bool) : Type 0 where
  pub size : length row ≤ length flags
  pub unset : (i : ℕ) (e : Extent) → slice_get row i ≡ Some e → Contains bases e.base → slice_index_or flags i false ≡ false
  pub only : (i : ℕ) (e : Extent) → slice_get row i ≡ Some e → slice_index_or flags i false ≡ false → Contains bases e.base
