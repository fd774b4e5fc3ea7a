-- What a workload is, and the first of its lines that breaks a rule.
use Rattle.std.specs.Prelude.{◌≡◌, ℕ, ◌-◌, ◌<◌, ◌≤◌, ◌⊎◌, ◌==◌, if◌then◌else◌, Bool, true, false, Option, Some, None, List, [], ◌++◌, length, take, replicate, filter, filter_map, All, slice_get, slice_index_or}
use Rattle.std.specs.List.{AllZip}
use Rattle.words.specs.declared.limits.TheConstants.{SLOTS}
use Rattle.heap_spec.specs.declared.call.Call.{Call}
use Rattle.heap_spec.specs.declared.event.Event.{Event}
use Rattle.heap_spec.specs.declared.event.Event.TheVariants.{Attach, Mutator, Begin, BeginPartial, Roots, Mark, Retrace, Finish, Sweep, Collect, Number}
use Rattle.shared.specs.WhileAttached.{IsNoDetach}
use Rattle.scripts.specs.declared.limits.TheConstants.{LAST_LINE}
use Rattle.scripts.specs.Grammar.{IsLineOf, IsBad}

-- what each actor of a workload runs: each mutator its calls, and the collector its commands
pub record ActorLines : Type 0 where
  pub mutators : List (List Call)
  pub collector : List Event

-- the call that a command is of this mutator
abbrev pub call_of : ℕ → Event → Option Call
call_of slot (Mutator who call) = if who == slot then Some call else None
call_of slot _ = None

-- whether a command is the collector's
abbrev pub is_collectors : Event → Bool
is_collectors Attach = false
is_collectors (Mutator who call) = false
is_collectors Begin = true
is_collectors BeginPartial = true
is_collectors Roots = true
is_collectors (Mark n) = true
is_collectors Retrace = true
is_collectors Finish = true
is_collectors Sweep = true
is_collectors Collect = true
is_collectors Number = true

-- Lists that threads can run: at most one for each slot, no mutator detaches, and the collector's commands are its own.
pub record CanBeRun (lists : ActorLines) : Type 0 where
  pub slots : length lists.mutators ≤ SLOTS
  pub calls : All (λ calls. All IsNoDetach calls) lists.mutators
  pub commands : All (λ command. is_collectors command ≡ true) lists.collector

-- A command that may stand behind the attaches of so many mutators: a call of one of these that is no detach, or a command of the collector.
abbrev pub MayRun : ℕ → Event → Type 0
MayRun mutators Attach = ⊥
MayRun mutators (Mutator slot call) = (slot < mutators) × IsNoDetach call
MayRun mutators Begin = Unit {0}
MayRun mutators BeginPartial = Unit {0}
MayRun mutators Roots = Unit {0}
MayRun mutators (Mark n) = Unit {0}
MayRun mutators Retrace = Unit {0}
MayRun mutators Finish = Unit {0}
MayRun mutators Sweep = Unit {0}
MayRun mutators Collect = Unit {0}
MayRun mutators Number = Unit {0}

-- Lines that are a workload: first an attach for each mutator, at most one for each slot, and then commands that may be run. Each
-- mutator's calls, and the collector's commands, are those of the lines, in their order.
pub record AreWorkload (lines : List (List ℕ)) (lists : ActorLines) : Type 0 where
  pub commands : List Event
  pub few : length lines < LAST_LINE
  pub are : AllZip IsLineOf lines (replicate (length lists.mutators) Attach ++ commands)
  pub slots : length lists.mutators ≤ SLOTS
  pub may_run : All (MayRun (length lists.mutators)) commands
  pub mutators : (slot : ℕ) → slot < length lists.mutators → slice_index_or lists.mutators slot [] ≡ filter_map (call_of slot) commands
  pub collector : lists.collector ≡ filter is_collectors commands

-- A command breaks no rule behind so many lines, which are a workload of so many mutators: an attach stands before all other lines.
abbrev pub MayFollow : ℕ → ℕ → Event → Type 0
MayFollow lines mutators Attach = (lines ≡ mutators) × (mutators < SLOTS)
MayFollow lines mutators command = MayRun mutators command

-- a line breaks a rule behind so many lines: it is bad, or it is a command that may not follow
abbrev pub BreaksRule : ℕ → ℕ → List ℕ → Type 0
BreaksRule lines mutators line = IsBad line ⊎ ((command : Event) × IsLineOf line command × (MayFollow lines mutators command → ⊥))

-- Line n, counted from 1, is the first that breaks a rule: the lines before it are a workload, and it breaks a rule behind them, or its
-- number is the last that there is.
pub record BreaksAt (lines : List (List ℕ)) (n : ℕ) : Type 0 where
  pub line : List ℕ
  pub lists : ActorLines
  pub counted : 0 < n
  pub is_line : slice_get lines (n - 1) ≡ Some line
  pub before : AreWorkload (take (n - 1) lines) lists
  pub breaks : BreaksRule (n - 1) (length lists.mutators) line ⊎ (n ≡ LAST_LINE)
