-- Cells that are taken one after the other.
use Rattle.std.specs.Prelude.{◌≡◌, ℕ, List, [], ◌∷◌, slice_set}
use Rattle.block_map.specs.Changes.{IsAdded}
use Rattle.block_map.specs.FoundIn.{found_in}
use Rattle.block_map.specs.Listed.{first_object, first_on, with_taken, HasFirst}
use Rattle.block_map.specs.States.{PageState, state_at, IsLaid}

-- the map with the first free cell of a page allocated
abbrev pub after_take : List ℕ → List PageState → ℕ → List PageState
after_take words states page = slice_set states page (with_taken words page (state_at states page))

-- Cells of a page were taken one after the other, each the first one of its list then, and each brought an object.
pub data TakesCells (words : List ℕ) (page : ℕ) : List PageState → List ℕ → List PageState → Type 0 where
  done : {states : List PageState} → TakesCells words page states [] states
  next : {states new : List PageState} {cell : ℕ} {more : List ℕ} → IsLaid states → cell ≡ first_on (state_at states page) → HasFirst (state_at states page)
      → IsAdded (found_in states) (found_in (after_take words states page)) (first_object page (state_at states page)) → TakesCells words page (after_take words states page) more new
      → TakesCells words page states (cell ∷ more) new
