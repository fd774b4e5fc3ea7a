use Rattle.std.proofs.Common.{◌≡◌, take}
use Rattle.tracing.specs.Truth.{flagged}
use Rattle.tracing.proofs.truth.flagged.Given as goal

-- of the objects so far those are there that have their flags
abbrev pub invariant-loop-object : goal.invariant-loop-object
invariant-loop-object l = l.places.items ≡ flagged l.flags (take l.object-index l.objects)
