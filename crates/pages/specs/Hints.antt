-- Where a search for free pages may begin.
use Rattle.std.specs.Prelude.{ℕ, ◌<◌, ◌≤◌, Bool, List, length}
use Rattle.pages.specs.Runs.{IsFreeRun, AreUsedBelow}
use Rattle.pages.specs.declared.hints.Hints.{Hints}

-- no n consecutive pages are free from a page below `low` on
pub record HasNoRunBelow (row : List Bool) (n low : ℕ) : Type 0 where
  pub inside : low ≤ length row
  pub none : 0 < n → (i : ℕ) → i < low → IsFreeRun row i n → ⊥

-- the hints are right for a row
pub record AreHints (row : List Bool) (hints : Hints) : Type 0 where
  pub some : 0 < hints.sought
  pub used : AreUsedBelow row hints.low
  pub none : HasNoRunBelow row hints.sought hints.passed
