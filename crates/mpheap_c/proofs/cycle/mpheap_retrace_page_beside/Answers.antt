use Rattle.std.proofs.Common.{refl}
use Rattle.mpheap_c.specs.Crossing.Holds.{held}
use Rattle.mpheap_c.proofs.cycle.mpheap_retrace_page_beside.Goals as goal

pub retrace_page_beside-requires-clause-moments : goal.retrace_page_beside-requires-clause-moments
retrace_page_beside-requires-clause-moments c = rw (← c.moments-moments.ensures) at c.requires.moments _ c.core.ensures.value

pub retrace_page_beside-requires-clause-beside : goal.retrace_page_beside-requires-clause-beside
retrace_page_beside-requires-clause-beside c = rw (← c.moments-moments.ensures) at c.requires.beside _ c.core.ensures.value

pub retrace_page_beside-requires-clause-still : goal.retrace_page_beside-requires-clause-still
retrace_page_beside-requires-clause-still c = rw (← c.moments-moments.ensures) at c.requires.still _ c.core.ensures.value

pub returns : goal.returns
returns c = held _ _ c.core.ensures.value refl (c.retrace_page_beside.result, c.word_to.ensures, rw c.moments-moments.ensures at c.retrace_page_beside.ensures)
