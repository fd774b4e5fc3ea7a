use Rattle.plain_heap.proofs.Answering.{one_newcomer, comes}
use Rattle.plain_heap.proofs.plain.PlainHeap.attach_as.Goals as goal

pub returns-then-not-is_same-clause-no : goal.returns-then-not-is_same-clause-no
returns-then-not-is_same-clause-no c refused = one_newcomer _ _ _ c.attach_answer.ensures (c.is_same.ensures.no c.if-not-is_same.true)

pub returns-clause-yes : goal.returns-clause-yes
returns-clause-yes c done = comes _ _ _ _ _ c.attach_answer.ensures (c.is_same.ensures.yes c.if-not-is_same.false) c.attach.ensures.step
