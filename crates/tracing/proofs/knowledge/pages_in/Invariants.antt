use Rattle.std.proofs.Common.{◌≡◌, take}
use Rattle.tracing.specs.Sets.{those_that}
use Rattle.tracing.specs.Pages.{is_in}
use Rattle.tracing.proofs.knowledge.pages_in.Given as goal

-- of the pages so far those are there that are in the set
abbrev pub invariant-loop-page : goal.invariant-loop-page
invariant-loop-page l = l.numbers.items ≡ those_that (λ page. is_in l.core l.set page) (take l.page-index l.pages)
