use Rattle.std.proofs.Common.{refl}
use Rattle.mpheap_c.specs.Crossing.Holds.{held}
use Rattle.mpheap_c.proofs.beside.mpheap_used_pages.Goals as goal

pub returns : goal.returns
returns c = held _ _ c.core.ensures.value refl (record { inside = c.used_pages.ensures.inside; below = c.used_pages.ensures.below; same = refl })
