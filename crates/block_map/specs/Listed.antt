-- The lists of the free cells of blocks, in the words of the free cells.
use Rattle.std.specs.Prelude.{◌≡◌, ◌≢◌, ℕ, ◌*◌, ◌<◌, false, true, List, length}
use Rattle.words.specs.declared.limits.TheConstants.{PAGE_WORDS}
use Rattle.blocks.specs.Lists.{first_after_put, link_of, ChangesFree, MayBeListed}
use Rattle.blocks.specs.declared.list.TheConstants.{UNLISTED}
use Rattle.block_map.specs.States.{PageState, free, cut, head, body, state_at, with_cell, HasCell}
use Rattle.block_map.specs.Objects.{object_on}
use Rattle.block_map.specs.declared.found.Found.{Found}

-- If the page is cut, the list of its free cells stands in this memory, or it has none yet.
abbrev pub IsListedOn : List ℕ → ℕ → PageState → Type 0
IsListedOn words page free = Unit {0}
IsListedOn words page (cut b) = MayBeListed words page b
IsListedOn words page (head n kind) = Unit {0}
IsListedOn words page (body first) = Unit {0}

-- The memory has the words of these pages, and the list of each block's free cells stands in it where it has one.
pub record AreListed (words : List ℕ) (states : List PageState) : Type 0 where
  pub size : length words ≡ PAGE_WORDS * length states
  pub each : (page : ℕ) → page < length states → IsListedOn words page (state_at states page)

-- the first free cell of a page that is cut
abbrev pub first_on : PageState → ℕ
first_on free = 0
first_on (cut b) = b.first
first_on (head n kind) = 0
first_on (body first) = 0

-- the number in the first word of its cell i
abbrev pub link_on : List ℕ → ℕ → PageState → ℕ → ℕ
link_on words page free i = 0
link_on words page (cut b) i = link_of words page b.class i
link_on words page (head n kind) i = 0
link_on words page (body first) i = 0

-- the object in its first free cell, once that is taken
abbrev pub first_object : ℕ → PageState → Found
first_object page st = object_on page st (first_on st)

-- the state with its first free cell allocated: the one that its link names is then the first
abbrev pub with_taken : List ℕ → ℕ → PageState → PageState
with_taken words page st = with_cell st (first_on st) true (link_on words page st (first_on st))

-- the page is cut, and its first free cell is one
abbrev pub HasFirst : PageState → Type 0
HasFirst st = HasCell st (first_on st) false

-- the page is cut, and has a list of its free cells
abbrev pub IsLinked : PageState → Type 0
IsLinked free = ⊥
IsLinked (cut b) = b.first ≢ UNLISTED
IsLinked (head n kind) = ⊥
IsLinked (body first) = ⊥

-- the state with this first free cell
abbrev pub with_first : PageState → ℕ → PageState
with_first free begin = free
with_first (cut b) begin = cut (record b { first = begin })
with_first (head n kind) begin = head n kind
with_first (body first) begin = body first

-- at most the first words of its free cells have changed
abbrev pub ChangesFreeOn : List ℕ → List ℕ → ℕ → PageState → Type 0
ChangesFreeOn old new page free = ⊥
ChangesFreeOn old new page (cut b) = ChangesFree old new page b.class b.taken
ChangesFreeOn old new page (head n kind) = ⊥
ChangesFreeOn old new page (body first) = ⊥

-- the state once its cell i is put back: that is the first free one then, where there is a list
abbrev pub with_put : PageState → ℕ → PageState
with_put st i = with_cell st i false (first_after_put (first_on st) i)
