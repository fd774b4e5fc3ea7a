use Rattle.plain_heap.proofs.Forgets.{takes_unflagged, cant_forget}
use Rattle.plain_heap.proofs.plain.PlainHeap.forget.Goals as goal

pub returns-in_default-clause-no : goal.returns-in_default-clause-no
returns-in_default-clause-no c refused = cant_forget _ _ _ _ c.in_default.not-None c.wrong_forgotten.ensures.wrong

pub returns-clause-yes : goal.returns-clause-yes
returns-clause-yes c done = takes_unflagged _ _ _ (rw c.wrong_forgotten.ensures.same at c.take_out.ensures.taken) c.args.flags.now (rw c.in-None.is at c.wrong_forgotten.ensures.wrong)
