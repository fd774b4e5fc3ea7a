use Rattle.std.proofs.Common.{refl}
use Rattle.mpheap_c.specs.Crossing.IsAnswered.{answered}
use Rattle.mpheap_c.proofs.many.mpheap_alloc_many.Goals as goal

pub returns-clause-call : goal.returns-clause-call
returns-clause-call c = let n = c.in-Some-Some in
    answered _ _ (n.ensures.1, n.ensures'.1) c.core.ensures.value refl
    (c.alloc_many.result, c.done.ensures, rw (n.ensures.0, n.ensures'.0) at c.alloc_many.ensures)
