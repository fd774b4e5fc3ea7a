-- A core of a script's own: new at first, and then called line by line.
use Rattle.std.specs.Prelude.{ℕ, List}
use Rattle.heap_spec.specs.Runs.{Told}
use Rattle.heap_core.specs.Acts.{AreActs}
use Rattle.heap_core.specs.CoreContents.{CoreContents}
use Rattle.heap_core.specs.Opening.{IsNew}

-- Some new core of so many pages was called so, one call after another, with these replies, and the calls left it so.
pub record AreCallsOfNew (pages : ℕ) (told : List Told) (last : CoreContents) : Type 0 where
  pub opened : CoreContents
  pub is_new : IsNew pages opened
  pub acts : AreActs opened told last
