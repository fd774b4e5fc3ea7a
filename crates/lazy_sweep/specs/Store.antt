-- Where the objects are, while pages are swept.
use Rattle.std.specs.Prelude.{◌≡◌, ℕ, ◌<◌, true, false, Bool, List, length, slice_index_or}
use Rattle.blocks.specs.Cells.{Cells}
use Rattle.block_map.specs.States.{PageState, free, cut, state_at}

-- Where the objects are: the words of the memory, the row of the pool, in which true is a free page, what stands on
-- each page, and the row of the pending pages, which are still to be swept.
pub record Store : Type 0 where
  pub words : List ℕ
  pub free : List Bool
  pub states : List PageState
  pub pending : List Bool

-- The pool and the map have the same pages, and agree on which of them are free.
pub record Agree (row : List Bool) (states : List PageState) : Type 0 where
  pub size : length row ≡ length states
  pub free_in_map : (page : ℕ) → slice_index_or row page false ≡ true → state_at states page ≡ free
  pub free_in_pool : (page : ℕ) → page < length states → state_at states page ≡ free → slice_index_or row page false ≡ true

-- Each page that is cut has an object: a page that has none left is free.
abbrev pub HasObjects : List PageState → Type 0
HasObjects states = (page : ℕ) (b : Cells) → state_at states page ≡ cut b → (i : ℕ) × (slice_index_or b.taken i false ≡ true)
