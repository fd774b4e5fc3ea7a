use Rattle.std.proofs.Common.{◌-◌, ◌*◌, length}
use Rattle.pages.proofs.RunStarts.{IsSought}
use Rattle.pages.proofs.starts.first_start.Given as goal

abbrev pub invariant-loop-from : goal.invariant-loop-from
invariant-loop-from l = IsSought l.words l.n l.low l.from

abbrev pub decreases-loop-from : goal.decreases-loop-from
decreases-loop-from l = 64 * length l.words - l.from
