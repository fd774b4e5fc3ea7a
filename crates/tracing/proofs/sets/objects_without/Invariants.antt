use Rattle.std.proofs.Common.{◌≡◌, take}
use Rattle.tracing.specs.Sets.{objects_without}
use Rattle.tracing.proofs.sets.objects_without.Given as goal

-- of the objects so far those are there at whose bases none of the others lies
abbrev pub invariant-loop-object : goal.invariant-loop-object
invariant-loop-object l = l.rest.items ≡ objects_without (take l.object-index l.objects) l.others
