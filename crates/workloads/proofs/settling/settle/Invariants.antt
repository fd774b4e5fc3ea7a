use Rattle.std.proofs.Common.{◌≡◌, ◌<◌, ℕ, length}
use Rattle.std.specs.Prelude.{slice_index_or}
use mathlib.Core.List.{IsPrefix}
use Rattle.history.specs.Histories.{counted_up}
use Rattle.heap_history.specs.Alone.{attaches}
use Rattle.heap_history.specs.Passes.{IsLegalPass}
use Rattle.shared.specs.Journals.{IsOf}
use Rattle.workloads.specs.Actors.{Keeps}
use Rattle.workloads.specs.declared.mutator_job.MutatorJob.{MutatorJob}
use Rattle.workloads.proofs.settling.settle.Given as goal

abbrev pub invariant-loop-i : goal.invariant-loop-i
invariant-loop-i g l = record {
  keeps : Keeps l.fn.collector l.collector;
  grows : IsPrefix l.fn.collector.seen l.collector.seen;
  fine : IsLegalPass g.J.Naming.origin l.collector;
  len : length l.jobs ≡ length l.fn.jobs;
  same : (n : ℕ) (d : MutatorJob g.row.J.Denot g.row.R.Denot) → n < length l.fn.jobs → Keeps (slice_index_or l.fn.jobs n d).attached (slice_index_or l.jobs n d).attached × ((slice_index_or l.jobs n d).calls ≡ (slice_index_or l.fn.jobs n d).calls) × ((slice_index_or l.jobs n d).replies ≡ (slice_index_or l.fn.jobs n d).replies);
  seen : (n : ℕ) (d : MutatorJob g.row.J.Denot g.row.R.Denot) → n < l.i → IsPrefix (slice_index_or l.jobs n d).attached.seen l.collector.seen;
}

abbrev pub invariant-loop-k : goal.invariant-loop-k
invariant-loop-k g l = record {
  keeps : Keeps l.fn.collector l.collector;
  grows : IsPrefix l.fn.collector.seen l.collector.seen;
  fine : IsLegalPass g.J.Naming.origin l.collector;
  len : length l.jobs ≡ length l.fn.jobs;
  same : (n : ℕ) (d : MutatorJob g.row.J.Denot g.row.R.Denot) → n < length l.fn.jobs → Keeps (slice_index_or l.fn.jobs n d).attached (slice_index_or l.jobs n d).attached × ((slice_index_or l.jobs n d).calls ≡ (slice_index_or l.fn.jobs n d).calls) × ((slice_index_or l.jobs n d).replies ≡ (slice_index_or l.fn.jobs n d).replies);
  begins : (n : ℕ) (d : MutatorJob g.row.J.Denot g.row.R.Denot) → n < length l.fn.jobs → IsPrefix (slice_index_or l.jobs n d).attached.seen l.collector.seen;
  count : l.came ≡ counted_up (attaches l.collector.seen);
  kept : IsOf l.journal l.collector.seen;
  met : (n : ℕ) (d : MutatorJob g.row.J.Denot g.row.R.Denot) → n < l.k → ((slice_index_or l.jobs n d).attached.seen ≡ l.collector.seen) × IsLegalPass g.J.Naming.origin (slice_index_or l.jobs n d).attached;
}
