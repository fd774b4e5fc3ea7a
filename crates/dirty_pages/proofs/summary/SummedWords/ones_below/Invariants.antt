use Rattle.std.proofs.Common.{◌*◌, ◌-◌, ◌≤◌}
use Rattle.words.specs.Bits.{IsCount}
use Rattle.dirty_pages.proofs.summary.SummedWords.ones_below.Given as goal

abbrev pub invariant-loop-j : goal.invariant-loop-j
invariant-loop-j l = IsCount l.self 0 (64 * l.from) l.count × (l.from ≤ l.end)

abbrev pub decreases-loop-j : goal.decreases-loop-j
decreases-loop-j l = l.end - l.from
