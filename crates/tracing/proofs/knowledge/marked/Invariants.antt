use Rattle.std.proofs.Common.{◌≡◌, take}
use Rattle.heap_core.specs.Looks.{marks_at}
use Rattle.tracing.specs.Sets.{places_that}
use Rattle.tracing.proofs.knowledge.marked.Given as goal

-- of the objects so far the marked ones are there
abbrev pub invariant-loop-object : goal.invariant-loop-object
invariant-loop-object l = l.places.items ≡ places_that (λ base. marks_at l.core base) (take l.object-index l.objects)
