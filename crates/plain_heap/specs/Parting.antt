-- Objects that stay, and objects that go.
use Rattle.std.specs.Prelude.{◌≡◌, ℕ, Bool, true, false, Some, List, ◌++◌, length, Contains, IsPermutation, slice_get, slice_index_or}
use Rattle.plain_heap.specs.declared.extent.Extent.{Extent}

-- the object stands in the row where the flag is this
abbrev pub HasFlag : List Extent → List Bool → Bool → Extent → Type 0
HasFlag row flags flag e = (i : ℕ) × (slice_get row i ≡ Some e) × (slice_index_or flags i false ≡ flag)

-- The objects whose flag is set stay, and all others, so many, are gone.
pub record Parts (old : List Extent) (flags : List Bool) (stay : List Extent) (count : ℕ) : Type 0 where
  pub gone : List Extent
  pub all : IsPermutation old (gone ++ stay)
  pub number : count ≡ length gone
  pub set : (e : Extent) → Contains stay e → HasFlag old flags true e
  pub unset : (e : Extent) → Contains gone e → HasFlag old flags false e
