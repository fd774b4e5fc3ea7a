use Rattle.std.proofs.Common.{refl}
use Rattle.heap_spec.specs.Steps.{Acts}
use Rattle.roots.proofs.Refusals.{handed_on}
use Rattle.roots.proofs.Steps.{refused, acts_on, pops}
use Rattle.roots.proofs.roots.Roots.pop.Goals as goal

pub returns-in_err-mutator : goal.returns-in_err-mutator
returns-in_err-mutator c = rw (handed_on _ _ _ c.from_residual.ensures.1 c.in_err-mutator.ensures.err.0) (refused _ _ _ c.in_err-mutator.ensures.err.1)

pub returns-then-is_empty : goal.returns-then-is_empty
returns-then-is_empty c = acts_on _ _ _ c.in_ok-mutator.mutator.now _ _ c.in_ok-mutator.ensures.ok (λ s. Acts.pop_empty c.if-is_empty.ensures)

pub returns : goal.returns
returns c = rw (← c.self.view_is)
    (pops _ _ _ _ _ c.in_ok-mutator.mutator.now (rw (← c.self.view_is) at c.in_ok-mutator.ensures.ok) (record { globals = refl; request_words = refl }) c.pop_of.ensures)
