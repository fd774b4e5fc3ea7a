-- What it is to a page and to the objects of a map that a page is swept.
use Rattle.std.specs.Prelude.{◌≡◌, ◌≢◌, ℕ, Bool, List, Option, Some}
use Rattle.words.specs.Bits.{Has}
use Rattle.words.specs.Layout.{granule}
use Rattle.blocks.specs.Cells.{Cells}
use Rattle.blocks.specs.Sweeps.{SweepsCells}
use Rattle.block_map.specs.States.{PageState, cut}
use Rattle.block_map.specs.declared.found.Found.{Found}

-- the cells of a page that is cut are swept
pub record SweepsOn (marks : List Bool) (page : ℕ) (st st' : PageState) : Type 0 where
  pub old : Cells
  pub new : Cells
  pub was : st ≡ cut old
  pub is : st' ≡ cut new
  pub cells : SweepsCells marks page old new

-- of the objects of the page exactly the marked ones are left, and all of other pages
pub record SweepsObjects (found after : ℕ → Option Found) (marks : List Bool) (page : ℕ) : Type 0 where
  pub others : (w : ℕ) (f : Found) → found w ≡ Some f → f.page ≢ page → after w ≡ Some f
  pub marked : (w : ℕ) (f : Found) → found w ≡ Some f → f.page ≡ page → Has marks (granule f.base) → after w ≡ Some f
  pub only : (w : ℕ) (f : Found) → after w ≡ Some f → (found w ≡ Some f) × (f.page ≡ page → Has marks (granule f.base))
