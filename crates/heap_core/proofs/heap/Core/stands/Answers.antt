use Rattle.heap_core.proofs.heap.Core.stands.Goals as goal

pub returns : goal.returns
returns c = record { stands = rw (← c.self.view_is) c.self.invariant.sound }
