use Rattle.std.proofs.Common.{refl}
use Rattle.block_map.proofs.Takings.{takes_row}
use Rattle.block_map.proofs.map.BlockMap.take_many.Goals as goal

pub invariant_of-self : goal.invariant_of-self
invariant_of-self c = rw c.take_many-count.ensures.block
    (takes_row c.take_many-count.ensures.pops c.args.memory.now _ c.args.page _ _ refl c.self.invariant (rw (← c.self.view_is) at c.requires.inside) c.block_mut-block.ensures.block).1

pub returns-clause-takes : goal.returns-clause-takes
returns-clause-takes c = rw (← c.self.view_is, c.take_many-count.ensures.block)
    (takes_row c.take_many-count.ensures.pops c.args.memory.now _ c.args.page _ _ refl c.self.invariant (rw (← c.self.view_is) at c.requires.inside) c.block_mut-block.ensures.block).0
