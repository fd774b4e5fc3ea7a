use Rattle.std.proofs.Common.{◌≡◌, take}
use Rattle.tracing.proofs.changes.common.Given as goal

-- so many entries are the same
abbrev pub invariant-loop-i : goal.invariant-loop-i
invariant-loop-i l = take l.i l.old ≡ take l.i l.new
