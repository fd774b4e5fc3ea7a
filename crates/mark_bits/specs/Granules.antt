-- Rows of one bit a granule.
use Rattle.std.specs.Prelude.{◌≡◌, ℕ, ◌+◌, ◌*◌, ◌/◌, ◌<◌, ◌≤◌, Bool, List, length}
use Rattle.words.specs.Bits.{members_between}
use Rattle.words.specs.declared.limits.TheConstants.{MOST_PAGES, PAGE_GRANULES}

-- the row has all granules of some pages, as many as a heap may have
pub record IsOfPages (row : List Bool) : Type 0 where
  pub some : 0 < length row
  pub whole : PAGE_GRANULES * (length row / PAGE_GRANULES) ≡ length row
  pub few : length row ≤ PAGE_GRANULES * MOST_PAGES

-- how many granules of a page are marked
abbrev pub marks_on : List Bool → ℕ → ℕ
marks_on row page = members_between row (PAGE_GRANULES * page) (PAGE_GRANULES * (page + 1))
