use Rattle.object_space.proofs.Swept.{sound_of, whole_of}
use Rattle.object_space.proofs.space.ObjectSpace.sweep.Goals as goal

pub step-requires-clause-sound : goal.step-requires-clause-sound
step-requires-clause-sound c = sound_of c.self.inside.memory c.self.inside.table c.self.invariant

pub invariant_of-self : goal.invariant_of-self
invariant_of-self c = whole_of c.self.inside.memory c.step.new.self c.step.ensures.sweeps.sound (c.step.ensures.sweeps.lists c.self.inside.memory c.self.invariant.listed)

pub returns-clause-sweeps : goal.returns-clause-sweeps
returns-clause-sweeps c = rw (← c.self.view_is) (c.step.ensures.sweeps.sweeps c.self.inside.memory)

pub returns-clause-page : goal.returns-clause-page
returns-clause-page c = λ is. rw (← c.self.view_is) (c.step.ensures.page is c.self.inside.memory)
