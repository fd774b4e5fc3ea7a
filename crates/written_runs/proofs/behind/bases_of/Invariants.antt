use Rattle.std.proofs.Common.{length}
use Rattle.written_runs.proofs.Hints.{IsReadTo}
use Rattle.written_runs.proofs.behind.bases_of.Given as goal

-- the bases so far are those of the text before the rest
abbrev pub invariant-loop-rest : goal.invariant-loop-rest
invariant-loop-rest l = IsReadTo l.text l.bases.items l.rest

abbrev pub decreases-loop-rest : goal.decreases-loop-rest
decreases-loop-rest l = length l.rest
