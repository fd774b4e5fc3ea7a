use Rattle.plain_heap.proofs.Answering.{one_answer, makes_step, refused_step}
use Rattle.plain_heap.proofs.plain.PlainHeap.call_as.Goals as goal

pub returns-then-not-is_same-clause-no : goal.returns-then-not-is_same-clause-no
returns-then-not-is_same-clause-no c refused = one_answer _ c.laws.ensures _ _ _ _ c.answer.ensures (c.is_same.ensures.no c.if-not-is_same.true)

pub returns-in_default-clause-yes : goal.returns-in_default-clause-yes
returns-in_default-clause-yes c done by = makes_step _ _ c.laws.ensures _ _ _ _ c.answer.ensures (c.is_same.ensures.yes c.if-not-is_same.false) c.in_default.not-Refused by c.make.ensures.made

pub returns-clause-yes : goal.returns-clause-yes
returns-clause-yes c done by = refused_step _ _ _ _ _ _ c.answer.ensures (c.is_same.ensures.yes c.if-not-is_same.false) c.in-Refused.is
