-- The object that a word points into, as a function of the states of the pages.
use Rattle.std.specs.Prelude.{◌≡◌, ℕ, ◌*◌, ◌/◌, ◌%◌, false, List, length, slice_index_or, if◌then◌else◌, nat_lt, Option, Some, None}
use Rattle.words.specs.declared.limits.TheConstants.{FIRST_ADDRESS, PAGE_BYTES, WORD_BYTES}
use Rattle.blocks.specs.Cells.{Cells}
use Rattle.words.specs.Layout.{page_of}
use Rattle.block_map.specs.States.{PageState, free, cut, head, body, state_at}
use Rattle.block_map.specs.Objects.{cell_object, large_object, IsObject, IsMap, IsInside}
use Rattle.block_map.specs.declared.found.Found.{Found}

-- the cell of a block that has a byte of its page
abbrev pub cell_at : Cells → ℕ → ℕ
cell_at b w = w % PAGE_BYTES / (WORD_BYTES * b.class)

-- the object of a block that a word of its page points into
abbrev pub found_in_block : ℕ → Cells → ℕ → Option Found
found_in_block page b w = if slice_index_or b.taken (cell_at b w) false then Some (cell_object page b (cell_at b w)) else None

-- the large object that begins on a page with this state
abbrev pub found_large : ℕ → PageState → Option Found
found_large page free = None
found_large page (cut b) = None
found_large page (head n kind) = Some (large_object page n kind)
found_large page (body first) = None

-- the object that a word of a page with this state points into
abbrev pub found_on : List PageState → ℕ → PageState → ℕ → Option Found
found_on states page free w = None
found_on states page (cut b) w = found_in_block page b w
found_on states page (head n kind) w = Some (large_object page n kind)
found_on states page (body first) w = found_large first (state_at states first)

-- the object that a word points into
unfoldable pub found_in : List PageState → ℕ → Option Found
found_in states w = if nat_lt w FIRST_ADDRESS then None else found_on states (page_of w) (state_at states (page_of w)) w

-- what is true of each map: its function has the laws of a map, and what it finds are exactly the objects of the states
pub record IsLawful (states : List PageState) : Type 0 where
  pub map : IsMap (length states) (found_in states)
  pub object : (w : ℕ) (f : Found) → found_in states w ≡ Some f → IsObject states f
  pub found : (w : ℕ) (f : Found) → IsObject states f → IsInside w f → found_in states w ≡ Some f
