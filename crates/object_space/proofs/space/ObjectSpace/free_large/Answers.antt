use Rattle.object_space.proofs.Freeing.{loses_pages, whole_large}
use Rattle.object_space.proofs.space.ObjectSpace.free_large.Goals as goal

pub invariant_of-self : goal.invariant_of-self
invariant_of-self c = whole_large c.self.inside.memory c.self.inside.table c.self.invariant c.laws.ensures.laid c.args.found (rw (← c.self.view_is) at c.requires.found) (rw (← c.self.view_is) at c.requires.lawful) (rw (← c.self.view_is) at c.requires.uncut) c.give.new.self c.uncut.new.self c.uncut.ensures.states c.uncut.ensures.uncut c.give.ensures

pub returns : goal.returns
returns c = rw (← c.self.view_is) (loses_pages c.self.inside.memory c.self.inside.table c.self.invariant c.laws.ensures.laid c.args.found (rw (← c.self.view_is) at c.requires.found) (rw (← c.self.view_is) at c.requires.lawful) (rw (← c.self.view_is) at c.requires.uncut) c.give.new.self c.uncut.new.self c.uncut.ensures.states c.uncut.ensures.uncut c.give.ensures)
