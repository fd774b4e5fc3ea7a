use Rattle.std.proofs.Common.{ℕ, ◌≤◌, below_more, arith}
use Rattle.plain_heap.specs.Places.{IsFreePage}
use Rattle.plain_heap.proofs.directory.Directory.is_free_run.Goals as goal

pub returns-then-not-is_free-clause-no : goal.returns-then-not-is_free-clause-no
returns-then-not-is_free-clause-no c _ all = c.is_free.ensures.no c.if-not-is_free.true (all c.loop-page.page (omega arith) (omega arith))

pub loop-page-preserved : goal.loop-page-preserved
loop-page-preserved c = below_more (λ (page : ℕ). c.args.first ≤ page → IsFreePage c.args.self.now.objects.items page) _ c.loop-page.invariant (λ _. c.is_free.ensures.yes c.if-not-is_free.false)

pub returns-clause-yes : goal.returns-clause-yes
returns-clause-yes c _ page low high = c.loop-page.invariant page (omega arith) low
