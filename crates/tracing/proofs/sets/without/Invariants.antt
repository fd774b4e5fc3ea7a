use Rattle.std.proofs.Common.{◌≡◌, take}
use Rattle.tracing.specs.Sets.{without}
use Rattle.tracing.proofs.sets.without.Given as goal

-- of the numbers so far those are there that are none of the others
abbrev pub invariant-loop-number : goal.invariant-loop-number
invariant-loop-number l = l.rest.items ≡ without (take l.number-index l.numbers) l.others
