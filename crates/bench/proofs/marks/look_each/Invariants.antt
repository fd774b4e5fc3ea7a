use Rattle.mark_bits.specs.Tables.{IsOf}
use Rattle.bench.proofs.marks.look_each.Given as goal

abbrev pub invariant-loop-bit : goal.invariant-loop-bit
invariant-loop-bit l = IsOf l.table l.me
