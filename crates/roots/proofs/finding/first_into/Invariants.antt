use Rattle.std.specs.Prelude.{take}
use Rattle.roots.specs.Finding.{AreNotInto}
use Rattle.roots.proofs.finding.first_into.Given as goal

-- so far
abbrev pub invariant-loop-index : goal.invariant-loop-index
invariant-loop-index l = AreNotInto (take l.index l.words) l.base l.length
