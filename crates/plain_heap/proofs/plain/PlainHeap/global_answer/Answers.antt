use Rattle.plain_heap.proofs.Answering.{may_get}
use Rattle.plain_heap.proofs.plain.PlainHeap.global_answer.Goals as goal

pub returns : goal.returns
returns c = rw (← c.self.view_is, c.global.ensures) (λ m into. may_get _ m into _)
