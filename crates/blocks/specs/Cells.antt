-- The cells of a page that is cut for a class of c words. The words that are left over at its end belong to no cell.
use Rattle.std.specs.Prelude.{◌≡◌, ℕ, ◌+◌, ◌*◌, ◌/◌, ◌<◌, ◌≤◌, Bool, List, length}
use Rattle.words.specs.declared.class.Kind.{Kind}
use Rattle.words.specs.declared.limits.TheConstants.{PAGE_WORDS, WORD_BYTES}
use Rattle.words.specs.Classes.{IsSizeClass}

-- What contracts see of a block: in the row of its cells, true is an allocated cell. The first free cell is where the list
-- of the free cells begins.
pub record Cells : Type 0 where
  pub class : ℕ
  pub kind : Kind
  pub taken : List Bool
  pub first : ℕ

-- the row has the cells of the class
pub record IsCells (b : Cells) : Type 0 where
  pub class : IsSizeClass b.class
  pub size : length b.taken ≡ PAGE_WORDS / b.class

-- the byte `offset` of the page belongs to the cell i
pub record IsInCell (c i offset : ℕ) : Type 0 where
  pub cell : i < PAGE_WORDS / c
  pub from : i * (WORD_BYTES * c) ≤ offset
  pub below : offset < i * (WORD_BYTES * c) + WORD_BYTES * c

-- the byte belongs to no cell
abbrev pub IsLeftOver : ℕ → ℕ → Type 0
IsLeftOver c offset = PAGE_WORDS / c * (WORD_BYTES * c) ≤ offset
