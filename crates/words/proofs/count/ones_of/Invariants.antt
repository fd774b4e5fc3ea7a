use Rattle.std.proofs.Common.{◌*◌}
use Rattle.words.specs.Bits.{IsCount}
use Rattle.words.proofs.count.ones_of.Given as goal

abbrev pub invariant-loop-j : goal.invariant-loop-j
invariant-loop-j l = IsCount l.words l.low (64 * l.j) l.count
