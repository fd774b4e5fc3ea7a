use Rattle.heap_spec.specs.Steps.{Acts}
use Rattle.roots.proofs.Refusals.{handed_on}
use Rattle.roots.proofs.Steps.{refused, acts_on}
use Rattle.roots.proofs.roots.Roots.detach.Goals as goal

pub returns-in_err-attached : goal.returns-in_err-attached
returns-in_err-attached c = rw (handed_on _ _ _ c.from_residual.ensures.1 c.in_err-attached.ensures.err.0) (refused _ _ _ c.in_err-attached.ensures.err.1)

pub returns : goal.returns
returns c = rw (← c.self.view_is, c.index.ensures.value, c.detach.ensures)
    (acts_on _ _ _ c.in_ok-attached.field-0.now _ _ (rw (← c.self.view_is) at c.in_ok-attached.ensures.ok) (λ s. Acts.detached))
