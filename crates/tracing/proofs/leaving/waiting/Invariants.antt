use Rattle.std.proofs.Common.{◌≡◌, take}
use Rattle.std.specs.Prelude.{◌&&◌}
use Rattle.tracing.specs.Sets.{those_that}
use Rattle.tracing.specs.Leaving.{waits}
use Rattle.tracing.proofs.leaving.waiting.Given as goal

-- of the bases so far those are there that wait
abbrev pub invariant-loop-base : goal.invariant-loop-base
invariant-loop-base l = l.some.items ≡ those_that (λ base. l.forgets && waits l.core base) (take l.base-index l.bases)
