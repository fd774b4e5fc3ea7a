use Rattle.object_space.proofs.space.ObjectSpace.mark_roots.Goals as goal

pub returns-clause-traces : goal.returns-clause-traces
returns-clause-traces c = rw (← c.self.view_is) (c.scan_roots.ensures.traces c.self.inside.memory)
