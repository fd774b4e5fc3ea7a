use Rattle.block_map.proofs.Sweeping.{laid_swept, objects_swept}
use Rattle.block_map.proofs.map.BlockMap.sweep.Goals as goal

pub invariant_of-self : goal.invariant_of-self
invariant_of-self c = laid_swept _ c.args.page _ _ _ c.self.invariant (rw (← c.self.view_is) at c.requires.inside) c.block_mut.ensures.block c.keep_marked.ensures.sweeps

pub returns-clause-objects : goal.returns-clause-objects
returns-clause-objects c = rw (← c.self.view_is)
    (objects_swept _ c.args.page _ _ _ c.self.invariant (rw (← c.self.view_is) at c.requires.inside) c.block_mut.ensures.block c.keep_marked.ensures.sweeps (rw (← c.self.view_is) at c.laws.ensures.lawful))
