use Rattle.std.proofs.Common.{◌≡◌, ap, arith}
use Rattle.std.specs.Prelude.{count_by}
use Rattle.object_space.specs.Store.{Store}
use Rattle.heap_core.proofs.Calls.{swept_stands}
use Rattle.heap_core.proofs.Cycling.{sweeps_one}
use Rattle.heap_core.proofs.Tracing.{traced_swept}
use Rattle.heap_core.proofs.Legal.{legal_still}
use Rattle.heap_core.proofs.heap.Core.sweep.Goals.{then-sweep, else-sweep}
use Rattle.heap_core.proofs.heap.Core.sweep.Goals as goal

pub invariant_of-self : goal.invariant_of-self
invariant_of-self c = legal_still _ _ c.self.invariant (traced_swept _ _ _ c.self.invariant.traced c.sweep.ensures.sweeps) (swept_stands _ _ _ _ c.sweep.ensures.sweeps)

pub returns : goal.returns
returns c = rw (← c.self.view_is) (elim c.if-sweep.branch [
  | then-sweep w ↦ rw w.result-is (sweeps_one _ _ 1 c.sweep.ensures.sweeps (omega arith) (λ one. c.sweep.ensures.page w.if-sweep.true) (c.sweep.ensures.fewer w.if-sweep.true) (λ zero. absurd (omega arith)))
  | else-sweep w ↦
      let none = c.sweep.ensures.none w.if-sweep.false in
      let same : count_by (λ b. b) c.sweep.new.self.pending ≡ count_by (λ b. b) c.self.inside.objects.pending = ap (λ (t : Store). count_by (λ b. b) t.pending) none.1 in
      rw w.result-is (sweeps_one _ _ 0 c.sweep.ensures.sweeps (omega arith) (λ one. absurd (omega arith)) (omega arith) (λ zero. none))
])
