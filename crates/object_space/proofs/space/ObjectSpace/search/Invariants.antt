use Rattle.std.specs.Prelude.{count_by}
use Rattle.object_space.specs.Sweeps.{FindsNoPlace}
use Rattle.object_space.proofs.space.ObjectSpace.search.Given as goal

abbrev pub invariant-loop-kind : goal.invariant-loop-kind
invariant-loop-kind l = FindsNoPlace l.initial.self l.marker.marks l.placement l.kind l.self

abbrev pub decreases-loop-kind : goal.decreases-loop-kind
decreases-loop-kind l = count_by (λ b. b) l.self.pending
