-- What is seen after a line.
use Rattle.std.specs.Prelude.{ℕ, Option, List}
use Rattle.std.specs.Borrow.{Bor}
use Rattle.heap_core.specs.CoreContents.{CoreContents}
use Rattle.replayer.specs.ReplayerContents.{ReplayerContents}
use Rattle.tracing.specs.declared.seen.Seen.{Seen}
use Rattle.tracing.specs.Pages.{IsNothing, KnowsOf}
use Rattle.tracing.specs.Truth.{IsBare, IsTrueOf}

-- Nothing is there, and nothing is known.
pub record IsBlank (s : Seen) : Type 0 where
  pub truth : IsBare s.truth
  pub knowledge : IsNothing s.knowledge

-- What is true is what the checker has, told by so many flags, and what is known is what the core, if there is one, has
-- of these objects and pages.
pub record IsSeen (core : Option (Bor CoreContents)) (c : ReplayerContents) (room : ℕ) (pages : List ℕ) (s : Seen) : Type 0 where
  pub truth : IsTrueOf c room s.truth
  pub knowledge : KnowsOf core s.truth.objects.items pages s.knowledge
