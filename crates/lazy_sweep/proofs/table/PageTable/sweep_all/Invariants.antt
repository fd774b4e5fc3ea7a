use Rattle.std.specs.Prelude.{count_by}
use Rattle.lazy_sweep.specs.Sound.{SweepsSome}
use Rattle.lazy_sweep.proofs.table.PageTable.sweep_all.Given as goal

abbrev pub invariant-loop : goal.invariant-loop
invariant-loop l = SweepsSome l.initial.self l.marker.marks l.self

abbrev pub decreases-loop : goal.decreases-loop
decreases-loop l = count_by (λ b. b) l.self.pending
