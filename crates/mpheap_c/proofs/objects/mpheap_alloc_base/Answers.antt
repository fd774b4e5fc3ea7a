use Rattle.std.proofs.Common.{refl}
use Rattle.mpheap_c.specs.Crossing.IsAnswered.{answered}
use Rattle.mpheap_c.proofs.objects.mpheap_alloc_base.Goals as goal

pub returns : goal.returns
returns c = let n = c.in-Some-Some in
    answered _ _ (n.ensures.1, n.ensures'.1) c.core.ensures.value refl
    (c.alloc_base.result, c.word_to.ensures, rw (n.ensures.0, n.ensures'.0) at c.alloc_base.ensures.call, rw (n.ensures.0, n.ensures'.0) at c.alloc_base.ensures.base)
