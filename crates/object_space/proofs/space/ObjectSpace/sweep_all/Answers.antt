use Rattle.object_space.proofs.Swept.{sound_of, whole_of}
use Rattle.object_space.proofs.space.ObjectSpace.sweep_all.Goals as goal

pub sweep_all-requires-clause-sound : goal.sweep_all-requires-clause-sound
sweep_all-requires-clause-sound c = sound_of c.self.inside.memory c.self.inside.table c.self.invariant

pub invariant_of-self : goal.invariant_of-self
invariant_of-self c = whole_of c.self.inside.memory c.sweep_all.new.self c.sweep_all.ensures.sweeps.sound (c.sweep_all.ensures.sweeps.lists c.self.inside.memory c.self.invariant.listed)

pub returns-clause-sweeps : goal.returns-clause-sweeps
returns-clause-sweeps c = rw (← c.self.view_is) (c.sweep_all.ensures.sweeps.sweeps c.self.inside.memory)
