use Rattle.std.specs.Prelude.{count_by}
use Rattle.lazy_sweep.specs.Sound.{SweepsSome}
use Rattle.lazy_sweep.proofs.table.PageTable.sweep_for.Given as goal

abbrev pub invariant-loop-page : goal.invariant-loop-page
invariant-loop-page l = SweepsSome l.initial.self l.marker.marks l.self

abbrev pub decreases-loop-page : goal.decreases-loop-page
decreases-loop-page l = count_by (λ b. b) l.self.pending
