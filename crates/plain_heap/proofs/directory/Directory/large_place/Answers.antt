use Rattle.std.proofs.Common.{ℕ, ◌≤◌, ◌<◌, ◌+◌, below_more, arith}
use Rattle.plain_heap.specs.Places.{IsFreePage}
use Rattle.plain_heap.proofs.directory.Directory.large_place.Goals as goal

pub returns-then-is_free_run-clause-some : goal.returns-then-is_free_run-clause-some
returns-then-is_free_run-clause-some c = record { first = c.loop-first.first; in_heap = omega arith; is_start = c.page_start.ensures; free = c.is_free_run.ensures.yes c.if-is_free_run.true }

pub loop-first-preserved : goal.loop-first-preserved
loop-first-preserved c = below_more (λ (first : ℕ). ((page : ℕ) → first ≤ page → page < first + c.args.count → IsFreePage c.args.self.now.objects.items page) → ⊥) _ c.loop-first.invariant (c.is_free_run.ensures.no c.if-is_free_run.false)
