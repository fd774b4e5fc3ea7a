-- Which core the collector's own work is run on.
use Rattle.std.specs.Prelude.{ℕ, List}
use Rattle.history.specs.Histories.{Reaches}
use Rattle.heap_spec.specs.SequentialObject.{HeapState, Opens, StateStep}
use Rattle.heap_history.specs.Passes.{MadeEvent}
use Rattle.heap_core.specs.CoreContents.{CoreContents, IsCore}
use Rattle.heap_core.specs.AsObject.{Stands}

-- Before the work and after it the core stands for where the history leads, from a new heap of so many pages, and what is
-- true of every core is true of it: so the dirty-page invariant too, while a cycle is marking.
pub record IsLent (pages : ℕ) (history : List MadeEvent) (before after : CoreContents) : Type 0 where
  pub state : HeapState
  pub reached : Reaches (Opens pages) StateStep history state
  pub stood_for : Stands before state
  pub still : Stands after state
  pub core : IsCore before
  pub core_after : IsCore after
