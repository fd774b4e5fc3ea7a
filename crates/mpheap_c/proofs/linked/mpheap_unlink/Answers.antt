use Rattle.std.proofs.Common.{refl}
use Rattle.mpheap_c.specs.Crossing.IsAnswered.{answered}
use Rattle.mpheap_c.proofs.linked.mpheap_unlink.Goals as goal

pub returns : goal.returns
returns c = let n = c.in-Some-Some in
    answered _ _ (n.ensures.1, n.ensures'.1) c.core.ensures.value refl (c.unlink.result, c.word_to.ensures, rw (n.ensures.0, n.ensures'.0) at c.unlink.ensures)
