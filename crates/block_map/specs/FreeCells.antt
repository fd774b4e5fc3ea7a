-- Which cells of a page are free.
use Rattle.std.specs.Prelude.{ℕ, false, MatchBool}
use Rattle.words.specs.Bits.{IsEmptyFrom, IsFirstFrom, IsFullRow}
use Rattle.words.specs.Classes.{IsSizeClass}
use Rattle.block_map.specs.States.{PageState, free, cut, head, body, HasCell, IsBlockFor}
use Rattle.block_map.specs.declared.found.Put.{Put}

-- the page is cut, and has a free cell
abbrev pub HasFree : PageState → Type 0
HasFree st = (i : ℕ) × HasCell st i false

-- the page is cut, and each cell is allocated
abbrev pub IsFullOn : PageState → Type 0
IsFullOn free = ⊥
IsFullOn (cut b) = IsFullRow b.taken
IsFullOn (head n kind) = ⊥
IsFullOn (body first) = ⊥

-- the page is cut, and no cell is allocated
abbrev pub IsEmptyOn : PageState → Type 0
IsEmptyOn free = ⊥
IsEmptyOn (cut b) = IsEmptyFrom b.taken 0
IsEmptyOn (head n kind) = ⊥
IsEmptyOn (body first) = ⊥

-- the page is cut, and has a lowest allocated cell
abbrev pub HasAllocated : PageState → Type 0
HasAllocated free = ⊥
HasAllocated (cut b) = (i : ℕ) × IsFirstFrom b.taken 0 i
HasAllocated (head n kind) = ⊥
HasAllocated (body first) = ⊥

-- What is told of a page on which a cell became free: the class and the kind that it is cut for, whether each cell was
-- allocated before, and whether none is now.
pub record TellsOf (old new : PageState) (put : Put) : Type 0 where
  pub class : IsSizeClass put.class
  pub block : IsBlockFor old put.class put.kind
  pub full : MatchBool put.was_full (IsFullOn old) (HasFree old)
  pub empty : MatchBool put.is_empty (IsEmptyOn new) (HasAllocated new)
