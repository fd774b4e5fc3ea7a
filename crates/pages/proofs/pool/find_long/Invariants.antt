use Rattle.std.proofs.Common.{◌-◌, length}
use Rattle.pages.proofs.Runs.{IsSearched}
use Rattle.pages.proofs.pool.find_long.Given as goal

abbrev pub invariant-loop-first : goal.invariant-loop-first
invariant-loop-first l = IsSearched l.row l.n l.from

abbrev pub decreases-loop-first : goal.decreases-loop-first
decreases-loop-first l = length l.row - l.from
