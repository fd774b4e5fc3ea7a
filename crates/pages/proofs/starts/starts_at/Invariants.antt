use Rattle.std.proofs.Common.{◌-◌, ◌≤◌}
use Rattle.pages.specs.Starts.{AreShrunk}
use Rattle.pages.proofs.starts.starts_at.Given as goal

abbrev pub invariant-loop-have : goal.invariant-loop-have
invariant-loop-have l = (2 ≤ l.have) × (l.have ≤ l.n) × AreShrunk l.both l.have l.starts

abbrev pub decreases-loop-have : goal.decreases-loop-have
decreases-loop-have l = l.n - l.have
