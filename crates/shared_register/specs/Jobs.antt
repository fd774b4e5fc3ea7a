-- Jobs of mutators in threads, before and after.
use Rattle.std.specs.Prelude.{◌≡◌, ℕ, ◌<◌, List, length, slice_index_or}
use Rattle.history.specs.declared.made.Made.{Made}
use Rattle.shared_register.specs.declared.jobs.Job.{Job}
use Rattle.shared_register.specs.declared.register.Call.{Call}
use Rattle.shared_register.specs.declared.register.Reply.{Reply}
use Rattle.shared_register.specs.LockedCalls.{AreReady, Ran, Settled, StandsIn}

module _ {J : Type 0} where
  -- the job's calls are plain ones, with room for each reply
  abbrev pub CanRun : Job J → Type 0
  CanRun job = AreReady job.calls.items job.replies.items

  -- each job's calls were made
  abbrev pub AllRan : List (Job J) → List (Job J) → Type 0
  AllRan old new = (i : ℕ) (d : Job J) → i < length old →
      Ran (slice_index_or old i d).me (slice_index_or old i d).calls.items (slice_index_or new i d).replies.items (slice_index_or new i d).me

  -- each job's mutator has seen this history, and the job is otherwise as it was
  abbrev pub AllSettled : ℕ → List (Job J) → List (Job J) → List (Made Call Reply) → Type 0
  AllSettled start old new all = (i : ℕ) (d : Job J) → i < length old →
      Settled start (slice_index_or old i d).me (slice_index_or new i d).me all
      × ((slice_index_or new i d).calls ≡ (slice_index_or old i d).calls)
      × ((slice_index_or new i d).replies ≡ (slice_index_or old i d).replies)

  -- each job's calls stand in this one history, with the replies that they were given
  abbrev pub AllStandIn : ℕ → List (Made Call Reply) → List (Job J) → List (Job J) → Type 0
  AllStandIn start all old new = (i : ℕ) (d : Job J) → i < length old →
      StandsIn start all (slice_index_or old i d).me (slice_index_or old i d).calls.items (slice_index_or new i d).replies.items (slice_index_or new i d).me
