use Rattle.plain_heap.proofs.Answering.{one_newcomer}
use Rattle.plain_heap.proofs.plain.PlainHeap.attach_reply.Goals as goal

pub returns-clause-only : goal.returns-clause-only
returns-clause-only c other ne = one_newcomer _ _ _ c.attach_answer.ensures ne
