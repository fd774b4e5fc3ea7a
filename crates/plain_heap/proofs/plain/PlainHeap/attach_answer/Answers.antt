use Rattle.plain_heap.proofs.Answering.{can_attach, cant_attach}
use Rattle.plain_heap.proofs.plain.PlainHeap.attach_answer.Goals as goal

pub returns-in_default : goal.returns-in_default
returns-in_default c = rw (← c.self.view_is) (cant_attach _ c.in_default.ensures)

pub returns : goal.returns
returns c = rw (← c.self.view_is) (can_attach _ _ c.in-Some.ensures)
