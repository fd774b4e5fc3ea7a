-- What a run of a workload on threads is answered: there is one history that explains all replies.
use Rattle.std.specs.Prelude.{◌≡◌, ℕ, ◌<◌, ◌⊎◌, Bool, true, false, not, if◌then◌else◌, All, List, [], ◌∷◌, ◌++◌, length, slice_index_or}
use mathlib.Core.List.{IsPrefix}
use Rattle.history.specs.declared.object.TheConstants.{COLLECTOR}
use Rattle.history.specs.Histories.{event, own, Legal, Reaches}
use Rattle.heap_spec.specs.declared.call.Call.{Call}
use Rattle.heap_spec.specs.declared.event.Event.{Event}
use Rattle.heap_spec.specs.declared.event.Event.TheVariants.{Attach, Mutator, Begin, BeginPartial, Roots, Mark, Retrace, Finish, Sweep, Collect, Number}
use Rattle.heap_spec.specs.declared.reply.Reply.{Reply}
use Rattle.heap_spec.specs.declared.reply.Reply.TheVariants.{Slot, Done, Word, Count, Refused}
use Rattle.heap_spec.specs.Runs.{opening_start}
use Rattle.heap_spec.specs.Transcripts.{LineOf}
use Rattle.heap_spec.specs.SequentialObject.{HeapState, Opens, StateStep}
use Rattle.heap_core.specs.Acts.{IsAct}
use Rattle.heap_core.specs.CoreContents.{CoreContents}
use Rattle.heap_history.specs.Ranks.{rank_of}
use Rattle.heap_history.specs.Passes.{MadeEvent}
use Rattle.heap_history.specs.Alone.{all_of}
use Rattle.shared.specs.Lending.{IsLent}
use Rattle.workloads.specs.Workloads.{ActorLines}
use Rattle.workloads.specs.Printing.{ActorReplies}

-- a mutator's calls with their replies, as events
abbrev pub events_of : ℕ → List Call → List Reply → List MadeEvent
events_of slot [] replies = []
events_of slot (call ∷ calls) [] = []
events_of slot (call ∷ calls) (reply ∷ replies) = event slot (Mutator slot call) reply ∷ events_of slot calls replies

-- A mutator's part of a history: all events of its slot are its attach and then its calls with these replies, in their order.
pub record IsMutatorsPart (history : List MadeEvent) (slot : ℕ) (calls : List Call) (replies : List Reply) : Type 0 where
  pub size : length replies ≡ length calls
  pub events : all_of slot history ≡ event slot Attach (Slot slot) ∷ events_of slot calls replies

-- the reply is a refusal
abbrev pub is_refusal : Reply → Bool
is_refusal (Slot k) = false
is_refusal Done = false
is_refusal (Word w) = false
is_refusal (Count n) = false
is_refusal (Refused why) = true

-- Whether a command of the collector that has this reply is an event: a begin, finish or collect that is granted.
abbrev pub is_in_history : Event → Reply → Bool
is_in_history Attach reply = false
is_in_history (Mutator slot call) reply = false
is_in_history Begin reply = not (is_refusal reply)
is_in_history BeginPartial reply = not (is_refusal reply)
is_in_history Roots reply = false
is_in_history (Mark n) reply = false
is_in_history Retrace reply = false
is_in_history Finish reply = not (is_refusal reply)
is_in_history Sweep reply = false
is_in_history Collect reply = not (is_refusal reply)
is_in_history Number reply = false

-- what a command of the collector with this reply leaves in the history
abbrev pub left_by : Event → Reply → List MadeEvent
left_by command reply = if is_in_history command reply then event COLLECTOR command reply ∷ [] else []

-- and what commands with their replies leave, in their order
abbrev pub left_by_all : List Event → List Reply → List MadeEvent
left_by_all [] replies = []
left_by_all (command ∷ commands) [] = []
left_by_all (command ∷ commands) (reply ∷ replies) = left_by command reply ++ left_by_all commands replies

-- Some core answered the command so, which stands before the call and after it for where the history leads.
pub record IsCoresAnswer (pages : ℕ) (history : List MadeEvent) (command : Event) (reply : Reply) : Type 0 where
  pub before : CoreContents
  pub after : CoreContents
  pub lent : IsLent pages history before after
  pub acts : IsAct before command reply after

-- A small step of the collector is one of a core: it reads, marks and sweeps what that call of the core does, of the size that was asked for.
abbrev pub IsStepOfCore : ℕ → List MadeEvent → Event → Reply → Type 0
IsStepOfCore pages history Roots reply = IsCoresAnswer pages history Roots reply
IsStepOfCore pages history (Mark n) reply = IsCoresAnswer pages history (Mark n) reply
IsStepOfCore pages history Retrace reply = IsCoresAnswer pages history Retrace reply
IsStepOfCore pages history Sweep reply = IsCoresAnswer pages history Sweep reply
IsStepOfCore pages history command reply = Unit {0}

-- A command that is no event has a reply that a legal transcript allows at a place of the history: at one where the collector's events
-- so far are these; and a small step is one of a core that stands for where the history leads up to there.
pub record IsAnsweredAmong (pages : ℕ) (history mine : List MadeEvent) (command : Event) (reply : Reply) : Type 0 where
  pub so_far : List MadeEvent
  pub within : IsPrefix so_far history
  pub between : own rank_of COLLECTOR so_far ≡ mine
  pub state : HeapState
  pub reached : Reaches (Opens pages) StateStep so_far state
  pub allowed : LineOf (opening_start state.pages) state.run command reply state.run
  pub step : IsStepOfCore pages so_far command reply

-- Commands have these replies, where the collector's events before them are these: each that is no event is answered between the
-- collector's events before it and those after it.
abbrev pub AreAnswered : ℕ → List MadeEvent → List MadeEvent → List Event → List Reply → Type 0
AreAnswered pages history mine [] [] = Unit {0}
AreAnswered pages history mine [] (reply ∷ replies) = ⊥
AreAnswered pages history mine (command ∷ commands) [] = ⊥
AreAnswered pages history mine (command ∷ commands) (reply ∷ replies) =
    (is_in_history command reply ≡ false → IsAnsweredAmong pages history mine command reply) × AreAnswered pages history (mine ++ left_by command reply) commands replies

-- The collector's part of a history: all its events are its granted begins, finishes and collects with these replies, in their order, and
-- its other commands are answered between them.
pub record IsCollectorsPart (pages : ℕ) (history : List MadeEvent) (commands : List Event) (replies : List Reply) : Type 0 where
  pub events : all_of COLLECTOR history ≡ left_by_all commands replies
  pub answers : AreAnswered pages history [] commands replies

-- This history explains the replies: it is a legal one of a heap of so many pages, of which each actor's lines with its replies are its
-- part, and nobody else had a part in it.
pub record Explains (pages : ℕ) (history : List MadeEvent) (lists : ActorLines) (replies : ActorReplies) : Type 0 where
  pub legal : Legal (Opens pages) StateStep history
  pub alone : All (λ (e : MadeEvent). (e.who < length lists.mutators) ⊎ (e.who ≡ COLLECTOR)) history
  pub size : length replies.mutators ≡ length lists.mutators
  pub mutators : (slot : ℕ) → slot < length lists.mutators → IsMutatorsPart history slot (slice_index_or lists.mutators slot []) (slice_index_or replies.mutators slot [])
  pub collector : IsCollectorsPart pages history lists.collector replies.collector

-- There is one history that explains the replies.
pub record HaveOneHistory (pages : ℕ) (lists : ActorLines) (replies : ActorReplies) : Type 0 where
  pub history : List MadeEvent
  pub explains : Explains pages history lists replies
