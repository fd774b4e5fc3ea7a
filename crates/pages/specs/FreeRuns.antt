-- A run of free pages, up to a page that isn't free.
use Rattle.std.specs.Prelude.{ℕ, ◌+◌, Bool, List}
use Rattle.words.specs.Bits.{IsFirstFrom}
use Rattle.pages.specs.Runs.{IsRunEnd}
use Rattle.pages.specs.declared.pool.FreeRun.{FreeRun}

-- It begins at the lowest free page from `low` on, and the page behind it, if there is one, isn't free.
pub record IsNextRun (row : List Bool) (low : ℕ) (run : FreeRun) : Type 0 where
  pub first : IsFirstFrom row low run.first
  pub ends : IsRunEnd row run.first (run.first + run.pages)
