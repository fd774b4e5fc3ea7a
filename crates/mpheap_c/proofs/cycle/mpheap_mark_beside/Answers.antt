use Rattle.std.proofs.Common.{refl}
use Rattle.mpheap_c.specs.Crossing.Holds.{held}
use Rattle.mpheap_c.proofs.cycle.mpheap_mark_beside.Goals as goal

pub mark_beside-requires-clause-moments : goal.mark_beside-requires-clause-moments
mark_beside-requires-clause-moments c = rw (← c.moments-moments.ensures) at c.requires.moments _ c.core.ensures.value

pub mark_beside-requires-clause-beside : goal.mark_beside-requires-clause-beside
mark_beside-requires-clause-beside c = rw (← c.moments-moments.ensures) at c.requires.beside _ c.core.ensures.value

pub returns : goal.returns
returns c = held _ _ c.core.ensures.value refl (c.mark_beside.result, c.word_to.ensures, rw c.moments-moments.ensures at c.mark_beside.ensures)
