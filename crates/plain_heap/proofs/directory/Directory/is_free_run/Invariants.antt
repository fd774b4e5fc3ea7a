use Rattle.std.proofs.Common.{ℕ, ◌<◌, ◌≤◌}
use Rattle.plain_heap.specs.Places.{IsFreePage}
use Rattle.plain_heap.proofs.directory.Directory.is_free_run.Given as goal

-- so far
abbrev pub invariant-loop-page : goal.invariant-loop-page
invariant-loop-page l = (page : ℕ) → page < l.page → l.first ≤ page → IsFreePage l.self.objects.items page
