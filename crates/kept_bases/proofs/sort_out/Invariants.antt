use Rattle.std.proofs.Common.{take}
use Rattle.kept_bases.specs.Sorting.{SortsOut}
use Rattle.kept_bases.proofs.sort_out.Given as goal

-- so far
abbrev pub invariant-loop-base : goal.invariant-loop-base
invariant-loop-base l = SortsOut l.core (take l.base-index l.base-items) l.bases.items l.gone.items
