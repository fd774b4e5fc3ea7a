use Rattle.std.proofs.Common.{refl}
use Rattle.heap_spec.specs.Steps.{Acts}
use Rattle.roots.proofs.Refusals.{handed_on}
use Rattle.roots.proofs.Steps.{refused, acts_on, pushes}
use Rattle.roots.proofs.roots.Roots.push.Goals as goal

pub returns-in_err-mutator : goal.returns-in_err-mutator
returns-in_err-mutator c = rw (handed_on _ _ _ c.from_residual.ensures.1 c.in_err-mutator.ensures.err.0) (refused _ _ _ c.in_err-mutator.ensures.err.1)

pub returns-then-is_full : goal.returns-then-is_full
returns-then-is_full c = acts_on _ _ _ c.in_ok-mutator.mutator.now _ _ c.in_ok-mutator.ensures.ok (λ s. Acts.push_full c.if-is_full.ensures)

pub returns : goal.returns
returns c = rw (← c.self.view_is)
    (pushes _ _ _ _ c.in_ok-mutator.mutator.now (rw (← c.self.view_is) at c.in_ok-mutator.ensures.ok) c.if-is_full.ensures (record { globals = refl; request_words = refl }) c.push_of.ensures)
