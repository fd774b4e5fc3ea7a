use Rattle.std.proofs.Common.{ℕ, ◌<◌}
use Rattle.plain_heap.specs.Places.{IsPlaceOn}
use Rattle.plain_heap.proofs.directory.Directory.small_place.Given as goal

-- so far
abbrev pub invariant-loop-page : goal.invariant-loop-page
invariant-loop-page l = (a page : ℕ) → page < l.page → IsPlaceOn l.self.objects.items page l.length l.kind a → ⊥
