use Rattle.plain_heap.proofs.Keeping.{kept_root}
use Rattle.plain_heap.proofs.plain.PlainHeap.keeper.Goals as goal

pub returns-in-Some-clause-keeper : goal.returns-in-Some-clause-keeper
returns-in-Some-clause-keeper c = rw (← c.self.view_is)
    (kept_root _ c.self.invariant.0 c.in_ok-own.own c.args.base c.in_ok-own.ensures.some c.object-object.result c.object-object.ensures c.in-Some.root c.in-Some.ensures.some)
