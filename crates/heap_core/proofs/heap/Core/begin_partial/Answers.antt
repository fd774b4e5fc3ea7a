use Rattle.std.proofs.Common.{refl}
use Rattle.heap_core.specs.Collections.{RefusesPartial}
use Rattle.heap_core.proofs.Cycling.{begins_partial}
use Rattle.heap_core.proofs.Tracing.{traced_partial}
use Rattle.heap_core.proofs.Legal.{legal_partial}
use Rattle.heap_core.proofs.heap.Core.begin_partial.Goals as goal

pub returns-then-self : goal.returns-then-self
returns-then-self c = rw (← c.self.view_is) (RefusesPartial.wrong_phase c.if-self.true, refl)

pub returns-then-self-2 : goal.returns-then-self-2
returns-then-self-2 c = rw (← c.self.view_is) (RefusesPartial.needs c.if-self.false c.if-self-2.true, refl)

pub invariant_of-self : goal.invariant_of-self
invariant_of-self c = legal_partial _ _ c.self.invariant
    (traced_partial c.self.inside.objects c.sweep_all.new.self _ _ _ c.self.invariant.traced c.sweep_all.ensures.sweeps c.sweep_all.ensures.swept c.laws.ensures.lawful.map c.if-self-2.false c.begin_partial.ensures.begins c.begin_partial.ensures.invariant c.begin_partial.ensures.carried)
    (begins_partial _ _ _ c.sweep_all.ensures.sweeps c.sweep_all.ensures.swept c.if-self-2.false c.begin_partial.ensures.begins)

pub returns : goal.returns
returns c = rw (← c.self.view_is) (c.if-self.false, c.if-self-2.false, begins_partial _ _ _ c.sweep_all.ensures.sweeps c.sweep_all.ensures.swept c.if-self-2.false c.begin_partial.ensures.begins)
