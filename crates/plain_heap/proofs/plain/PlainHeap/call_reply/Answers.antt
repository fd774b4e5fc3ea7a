use Rattle.plain_heap.proofs.Answering.{one_answer}
use Rattle.plain_heap.proofs.plain.PlainHeap.call_reply.Goals as goal

pub returns-clause-only : goal.returns-clause-only
returns-clause-only c other ne = one_answer _ c.laws.ensures _ _ _ _ c.answer.ensures ne
