-- The objects of a page in their order.
use Rattle.std.specs.Prelude.{◌≡◌, ℕ, ◌<◌, ◌≤◌, Option, Some, None}
use Rattle.words.specs.Bits.{IsFirstFrom}
use Rattle.blocks.specs.Cells.{Cells}
use Rattle.block_map.specs.Objects.{cell_object}
use Rattle.block_map.specs.FoundIn.{cell_at}
use Rattle.block_map.specs.declared.found.Found.{Found}

-- the object is the first one that a word from `low` on and below `high` points into
pub record IsNextObject (found : ℕ → Option Found) (low high : ℕ) (f : Found) : Type 0 where
  pub at : ℕ
  pub after : low ≤ at
  pub below : at < high
  pub reads : found at ≡ Some f
  pub least : (w : ℕ) → low ≤ w → w < at → found w ≡ None

-- no word from `low` on and below `high` points into an object
pub record IsNoObject (found : ℕ → Option Found) (low high : ℕ) : Type 0 where
  pub none : (w : ℕ) → low ≤ w → w < high → found w ≡ None

-- the object in the first allocated cell from the one on that has the address
pub record IsNextCell (page : ℕ) (b : Cells) (from : ℕ) (f : Found) : Type 0 where
  pub cell : ℕ
  pub first : IsFirstFrom b.taken (cell_at b from) cell
  pub object : f ≡ cell_object page b cell
