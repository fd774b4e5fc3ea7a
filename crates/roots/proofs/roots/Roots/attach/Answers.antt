use Rattle.heap_spec.specs.Steps.{Attaches}
use Rattle.roots.proofs.Refusals.{handed_on_none}
use Rattle.roots.proofs.roots.Roots.attach.Goals as goal

pub returns-in_err-slot : goal.returns-in_err-slot
returns-in_err-slot c = rw (handed_on_none _ _ _ _ c.from_residual.ensures.1 c.in_err-slot.ensures.value) (λ s. Attaches.no_slot (rw c.in_err-slot.ensures.ok_part at c.vacant.ensures))

pub returns : goal.returns
returns c = rw (← c.self.view_is, c.index.ensures.value, c.attach.ensures) (let next = rw (c.in_ok-slot.ensures.ok_part, ← c.self.view_is) at c.vacant.ensures in λ s. Attaches.attached (next.is_vacant, next.lowest))
