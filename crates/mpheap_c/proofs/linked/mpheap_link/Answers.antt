use Rattle.std.proofs.Common.{refl}
use Rattle.mpheap_c.specs.Crossing.IsServed.{served}
use Rattle.mpheap_c.proofs.linked.mpheap_link.Goals as goal

pub returns : goal.returns
returns c = let n = c.in-Some-Some-Some in
    served _ _ (n.ensures.1, n.ensures'.1, n.ensures''.1) c.core.ensures.value refl (c.link.result, c.done.ensures, rw (n.ensures.0, n.ensures'.0, n.ensures''.0) at c.link.ensures)
