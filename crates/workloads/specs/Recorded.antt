-- What a run of a workload leaves of which a journal was kept, or none.
use Rattle.std.specs.Prelude.{ℕ, List}
use Rattle.heap_history.specs.Passes.{MadeEvent}
use Rattle.shared.specs.declared.journal.Journal.{Journal}
use Rattle.shared.specs.Journals.{IsOf}
use Rattle.workloads.specs.Workloads.{ActorLines}
use Rattle.workloads.specs.Printing.{ActorReplies}
use Rattle.workloads.specs.OneHistory.{Explains}

-- One history explains the replies, and the journal is of that history.
pub record IsRun (pages : ℕ) (lists : ActorLines) (replies : ActorReplies) (journal : Journal) : Type 0 where
  pub history : List MadeEvent
  pub explains : Explains pages history lists replies
  pub kept : IsOf journal history
