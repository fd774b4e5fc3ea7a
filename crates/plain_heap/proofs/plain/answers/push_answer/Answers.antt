use Rattle.heap_spec.specs.Steps.{Acts}
use Rattle.plain_heap.proofs.plain.answers.push_answer.Goals as goal

pub returns-then-is_full : goal.returns-then-is_full
returns-then-is_full c plain from s h slot = (s, Acts.push_full c.if-is_full.ensures)

pub returns : goal.returns
returns c plain from s h slot = (_, Acts.pushed c.if-is_full.ensures)
