use Rattle.std.proofs.Common.{All}
use Rattle.mark_bits.specs.Tables.{IsOf}
use Rattle.bench.proofs.marks.hire.Given as goal

abbrev pub invariant-loop : goal.invariant-loop
invariant-loop l = IsOf l.table l.first × All (λ c. IsOf l.table c) l.crew.items
