use Rattle.object_space.proofs.EmptyPages.{empty_pages}
use Rattle.object_space.proofs.space.ObjectSpace.laws.Goals as goal

pub returns-clause-empty : goal.returns-clause-empty
returns-clause-empty c = rw (← c.self.view_is) (empty_pages _ c.laws.ensures.laid c.laws.ensures.lawful c.self.invariant.sound)
