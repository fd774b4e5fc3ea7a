use Rattle.std.proofs.Common.{subst}
use Rattle.marker.specs.Marking.{IsBlank}
use Rattle.heap_core.proofs.Cycling.{begins}
use Rattle.heap_core.proofs.Tracing.{traced_begun}
use Rattle.heap_core.proofs.Legal.{legal_begun}
use Rattle.heap_core.proofs.Unmarked.{unmarked_past}
use Rattle.heap_core.proofs.heap.Core.begin.Goals as goal

pub begin-requires-clause-unmarked : goal.begin-requires-clause-unmarked
begin-requires-clause-unmarked c = unmarked_past _ c.self.inside.marker _ c.self.invariant.traced.objects c.used-used.ensures.below

pub returns : goal.returns
returns c = rw (← c.self.view_is) (c.if-self.false, begins _ _ _ c.sweep_all.ensures.sweeps c.sweep_all.ensures.swept (subst (λ n. IsBlank n c.begin.new.self) c.self.invariant.traced.pages c.begin.ensures.blank))

pub invariant_of-self : goal.invariant_of-self
invariant_of-self c = legal_begun _ _ c.self.invariant
    (traced_begun _ _ _ _ _ c.self.invariant.traced c.sweep_all.ensures.sweeps c.sweep_all.ensures.swept c.begin.ensures.blank c.begin.ensures.invariant c.begin.ensures.carried)
    (begins _ _ _ c.sweep_all.ensures.sweeps c.sweep_all.ensures.swept (subst (λ n. IsBlank n c.begin.new.self) c.self.invariant.traced.pages c.begin.ensures.blank))
