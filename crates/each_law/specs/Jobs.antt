-- Jobs before, while and after threads run them.
use Rattle.std.specs.Prelude.{ℕ, ◌<◌, ◌≡◌, List, length, slice_index_or}
use Rattle.std.specs.declared.thread.PromisedHandle.{PromisedHandle}
use Rattle.each_law.specs.declared.law.Done.{Done}

module _ {T : Type 0} where
  -- each job was run
  pub record HaveRun (does : T → T → Type 0) (old new : List T) : Type 0 where
    pub size : length new ≡ length old
    pub each : (i : ℕ) (d e : T) → i < length old → does (slice_index_or old i d) (slice_index_or new i e)

module _ {T L : Type 0} where
  -- a thread runs each job
  pub record AreStarted (law : L) (jobs : List T) (running : List (PromisedHandle T (Done T L))) : Type 0 where
    pub size : length running ≡ length jobs
    pub each : (i : ℕ) (d : PromisedHandle T (Done T L)) (e : T) → i < length jobs → ((slice_index_or running i d).promise.job.value ≡ slice_index_or jobs i e) × ((slice_index_or running i d).promise.law.value ≡ law)

  -- each thread's job was run
  pub record AreJoined (does : L → T → T → Type 0) (running : List (PromisedHandle T (Done T L))) (done : List T) : Type 0 where
    pub size : length done ≡ length running
    pub each : (i : ℕ) (d : PromisedHandle T (Done T L)) (e : T) → i < length running → does (slice_index_or running i d).promise.law.value (slice_index_or running i d).promise.job.value (slice_index_or done i e)
