use Rattle.plain_heap.proofs.Placed.{births_alone}
use Rattle.plain_heap.proofs.plain.laws.births_are_alone.Goals as goal

pub returns : goal.returns
returns c = births_alone
