use Rattle.std.proofs.Common.{◌≡◌, ◌+◌, take}
use Rattle.std.specs.Prelude.{sum_by}
use Rattle.tracing.proofs.words_read.are_so_many.Given as goal

-- the words of the runs so far are counted off
abbrev pub invariant-loop-run : goal.invariant-loop-run
invariant-loop-run l = l.left + sum_by (λ r. r.words) (take l.run-index l.runs) ≡ l.words
