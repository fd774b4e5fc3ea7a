use Rattle.plain_heap.proofs.Answering.{can_answer, can_refuse}
use Rattle.plain_heap.proofs.plain.PlainHeap.answer.Goals as goal

pub returns-in_default : goal.returns-in_default
returns-in_default c = can_refuse _ _ _ c.in_default.ensures.none

pub returns : goal.returns
returns c = can_answer _ _ c.in-Some.mutator.now _ _ c.in-Some.ensures.some c.mutator_answer.ensures
