-- What actors do in threads of their own, before and after.
use Rattle.std.specs.Prelude.{◌≡◌, ℕ, ◌<◌, true, false, All, List, [], ◌++◌, length, slice_index_or}
use mathlib.Core.List.{IsPrefix}
use Rattle.history.specs.declared.object.TheConstants.{COLLECTOR}
use Rattle.heap_spec.specs.declared.call.Call.{Call}
use Rattle.heap_spec.specs.declared.event.Event.{Event}
use Rattle.heap_spec.specs.declared.reply.Reply.{Reply}
use Rattle.heap_history.specs.Passes.{MadeEvent, HeapPass, IsLegalPass}
use Rattle.heap_history.specs.Headline.{Begun}
use Rattle.shared.specs.WhileAttached.{IsNoDetach}
use Rattle.workloads.specs.Workloads.{is_collectors}
use Rattle.workloads.specs.OneHistory.{events_of, is_in_history, left_by, left_by_all, IsAnsweredAmong, AreAnswered}
use Rattle.workloads.specs.declared.mutator_job.MutatorJob.{MutatorJob}
use Rattle.workloads.specs.declared.collector_job.CollectorJob.{CollectorJob}

-- a mutator made these calls in this order, with these replies, and no others
pub record Called (old : HeapPass) (calls : List Call) (replies : List Reply) (new : HeapPass) : Type 0 where
  pub slot : new.slot ≡ old.slot
  pub mine : new.mine ≡ old.mine ++ events_of old.slot calls replies

-- the collector gave a command, with this reply
pub record Commanded (pages : ℕ) (old : HeapPass) (command : Event) (reply : Reply) (new : HeapPass) : Type 0 where
  pub slot : new.slot ≡ old.slot
  pub seen : IsPrefix old.seen new.seen
  pub mine : new.mine ≡ old.mine ++ left_by command reply
  pub answered : is_in_history command reply ≡ false → IsAnsweredAmong pages new.seen old.mine command reply

-- the collector gave these commands in this order, with these replies, and no others
pub record CommandedAll (pages : ℕ) (old : HeapPass) (commands : List Event) (replies : List Reply) (new : HeapPass) : Type 0 where
  pub slot : new.slot ≡ old.slot
  pub seen : IsPrefix old.seen new.seen
  pub mine : new.mine ≡ old.mine ++ left_by_all commands replies
  pub answered : AreAnswered pages new.seen old.mine commands replies

-- a pass and what it knows of its own events stay, whatever it has seen since
pub record Keeps (old new : HeapPass) : Type 0 where
  pub slot : new.slot ≡ old.slot
  pub mine : new.mine ≡ old.mine

module _ {J R : Type 0} where
  -- none of a mutator's calls is its last, and there is room for each reply
  pub record CanCall (job : MutatorJob J R) : Type 0 where
    pub plain : All IsNoDetach job.calls.now
    pub room : length job.replies.items ≡ length job.calls.now

  -- a job's mutator made all its calls in their order, and the job has each reply
  pub record HasCalled (old new : MutatorJob J R) : Type 0 where
    pub calls : new.calls ≡ old.calls
    pub room : length new.replies.items ≡ length old.calls.now
    pub called : Called old.attached old.calls.now new.replies.items new.attached

  -- a mutator that has just come to this slot, with these calls to make
  pub record IsAttachedJob (pages : ℕ) (calls : List Call) (slot : ℕ) (job : MutatorJob J R) : Type 0 where
    pub slot_is : job.attached.slot ≡ slot
    pub calls_are : job.calls.now ≡ calls
    pub can : CanCall job
    pub begun : Begun pages job.attached

  -- there is a job for each list of calls, and its mutator has just come to the slot of that number
  pub record AreAttached (pages : ℕ) (lists : List (List Call)) (jobs : List (MutatorJob J R)) : Type 0 where
    pub size : length jobs ≡ length lists
    pub each : (i : ℕ) (d : MutatorJob J R) → i < length lists → IsAttachedJob pages (slice_index_or lists i []) i (slice_index_or jobs i d)

  -- a job's mutator has seen this history, and the job is otherwise as it was
  pub record Settled (pages : ℕ) (history : List MadeEvent) (old new : MutatorJob J R) : Type 0 where
    pub keeps : Keeps old.attached new.attached
    pub calls : new.calls ≡ old.calls
    pub replies : new.replies ≡ old.replies
    pub seen : new.attached.seen ≡ history
    pub fine : IsLegalPass pages new.attached

  -- each job's mutator has seen this history, and the jobs are otherwise as they were
  abbrev pub AllSettled : ℕ → List MadeEvent → List (MutatorJob J R) → List (MutatorJob J R) → Type 0
  AllSettled pages history old new = (i : ℕ) (d : MutatorJob J R) → i < length old → Settled pages history (slice_index_or old i d) (slice_index_or new i d)

  -- the replies that the jobs have
  pub record AreReplies (jobs : List (MutatorJob J R)) (replies : List (List Reply)) : Type 0 where
    pub size : length replies ≡ length jobs
    pub each : (i : ℕ) (d : MutatorJob J R) → i < length jobs → slice_index_or replies i [] ≡ (slice_index_or jobs i d).replies.items

module _ {J : Type 0} where
  -- all commands are the collector's, which has its slot, and there is room for each reply
  pub record CanCommand (job : CollectorJob J) : Type 0 where
    pub slot : job.collector.slot ≡ COLLECTOR
    pub own : All (λ command. is_collectors command ≡ true) job.commands.now
    pub room : length job.replies.items ≡ length job.commands.now

  -- the collector gave all its commands in their order, and the job has each reply
  pub record HasCommanded (pages : ℕ) (old new : CollectorJob J) : Type 0 where
    pub room : length new.replies.items ≡ length old.commands.now
    pub commanded : CommandedAll pages old.collector old.commands.now new.replies.items new.collector
