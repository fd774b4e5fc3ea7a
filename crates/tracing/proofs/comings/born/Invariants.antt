use Rattle.std.proofs.Common.{◌≡◌, take}
use Rattle.std.specs.Prelude.{map}
use Rattle.tracing.specs.Comings.{new_object}
use Rattle.tracing.proofs.comings.born.Given as goal

-- the objects so far are told
abbrev pub invariant-loop-object : goal.invariant-loop-object
invariant-loop-object l = l.born.items ≡ map (new_object l.births) (take l.object-index l.object-items)
