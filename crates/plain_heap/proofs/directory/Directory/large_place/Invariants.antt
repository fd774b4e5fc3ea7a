use Rattle.std.proofs.Common.{ℕ, ◌<◌, ◌≤◌, ◌+◌}
use Rattle.plain_heap.specs.Places.{IsFreePage}
use Rattle.plain_heap.proofs.directory.Directory.large_place.Given as goal

-- so far
abbrev pub invariant-loop-first : goal.invariant-loop-first
invariant-loop-first l = (first : ℕ) → first < l.first → ((page : ℕ) → first ≤ page → page < first + l.count → IsFreePage l.self.objects.items page) → ⊥
