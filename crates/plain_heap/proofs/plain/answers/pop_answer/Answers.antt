use Rattle.heap_spec.specs.Steps.{Acts}
use Rattle.plain_heap.proofs.plain.answers.pop_answer.Goals as goal

pub returns-in_default : goal.returns-in_default
returns-in_default c plain into s h slot = (s, Acts.pop_empty c.in_default.ensures)

pub returns : goal.returns
returns c plain into s h slot = (_, Acts.popped c.in-Some.ensures.0 c.in-Some.ensures.1)
