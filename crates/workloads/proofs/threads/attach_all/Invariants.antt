use Rattle.std.specs.Prelude.{◌≡◌, ℕ, ◌<◌, All, [], get_or, vec_items, vec_len, slice_index_or}
use Rattle.workloads.specs.Actors.{CanCall, IsAttachedJob}
use Rattle.workloads.specs.declared.mutator_job.MutatorJob.{MutatorJob}
use Rattle.workloads.proofs.threads.attach_all.Given as goal

abbrev pub invariant-loop-slot : goal.invariant-loop-slot
invariant-loop-slot g l = record {
  size : vec_len l.jobs ≡ l.slot;
  each : (k : ℕ) (d : MutatorJob g.row.J.Denot g.row.R.Denot) → k < l.slot → IsAttachedJob g.J.Naming.origin (slice_index_or l.workload.mutators k []) k (get_or (vec_items l.jobs) k d);
  can : All (λ job. CanCall job) (vec_items l.jobs);
}
