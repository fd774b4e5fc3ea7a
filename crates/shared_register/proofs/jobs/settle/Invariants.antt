use Rattle.std.proofs.Common.{◌≡◌, ◌<◌, ℕ, length}
use Rattle.std.specs.Prelude.{slice_index_or}
use mathlib.Core.List.{IsPrefix}
use Rattle.shared_register.specs.declared.jobs.Job.{Job}
use Rattle.shared_register.specs.LockedCalls.{Keeps, IsLegalPass}
use Rattle.shared_register.proofs.jobs.settle.Given as goal

abbrev pub invariant-loop-i : goal.invariant-loop-i
invariant-loop-i g l = record {
  len : length l.jobs ≡ length l.fn.jobs;
  same : (n : ℕ) (d : Job g.row.J.Denot) → n < length l.fn.jobs → Keeps (slice_index_or l.fn.jobs n d).me (slice_index_or l.jobs n d).me × ((slice_index_or l.jobs n d).calls ≡ (slice_index_or l.fn.jobs n d).calls) × ((slice_index_or l.jobs n d).replies ≡ (slice_index_or l.fn.jobs n d).replies);
  seen : (n : ℕ) (d : Job g.row.J.Denot) → n < l.i → IsPrefix (slice_index_or l.jobs n d).me.seen l.collector.seen;
}

abbrev pub invariant-loop-k : goal.invariant-loop-k
invariant-loop-k g l = record {
  len : length l.jobs ≡ length l.fn.jobs;
  same : (n : ℕ) (d : Job g.row.J.Denot) → n < length l.fn.jobs → Keeps (slice_index_or l.fn.jobs n d).me (slice_index_or l.jobs n d).me × ((slice_index_or l.jobs n d).calls ≡ (slice_index_or l.fn.jobs n d).calls) × ((slice_index_or l.jobs n d).replies ≡ (slice_index_or l.fn.jobs n d).replies);
  begins : (n : ℕ) (d : Job g.row.J.Denot) → n < length l.fn.jobs → IsPrefix (slice_index_or l.jobs n d).me.seen l.collector.seen;
  met : (n : ℕ) (d : Job g.row.J.Denot) → n < l.k → ((slice_index_or l.jobs n d).me.seen ≡ l.collector.seen) × IsLegalPass g.J.Naming.origin (slice_index_or l.jobs n d).me;
}
