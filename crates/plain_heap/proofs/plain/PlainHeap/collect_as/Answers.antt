use Rattle.plain_heap.proofs.Forgets.{takes_unreached, cant_collect}
use Rattle.plain_heap.proofs.plain.PlainHeap.collect_as.Goals as goal

pub returns-in_default-clause-no : goal.returns-in_default-clause-no
returns-in_default-clause-no c refused = cant_collect _ _ _ c.in_default.not-None c.wrong_collected.ensures.wrong

pub returns-clause-yes : goal.returns-clause-yes
returns-clause-yes c done = takes_unreached _ _ _ (rw c.wrong_collected.ensures.same at c.take_out.ensures.taken) (rw c.in-None.is at c.wrong_collected.ensures.wrong)
