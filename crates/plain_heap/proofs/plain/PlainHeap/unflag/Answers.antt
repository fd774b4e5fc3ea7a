use Rattle.plain_heap.proofs.Aging.{one_unset}
use Rattle.plain_heap.proofs.plain.PlainHeap.unflag.Goals as goal

pub returns : goal.returns
returns c = rw (← c.self.view_is) (one_unset _ c.self.invariant.0 c.args.base c.args.flags.now c.set_flag.new.flags c.set_flag.ensures)
