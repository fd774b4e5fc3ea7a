use Rattle.object_space.proofs.space.ObjectSpace.mark.Goals as goal

pub returns-clause-takes : goal.returns-clause-takes
returns-clause-takes c = rw (← c.self.view_is, ← c.new-reader.ensures.words, ← c.new-reader.ensures.moments) c.step-marked.ensures.takes

pub returns-clause-traces : goal.returns-clause-traces
returns-clause-traces c = rw (← c.self.view_is, ← c.new-reader.ensures.words) (c.step-marked.ensures.traces c.new-reader.ensures.moments)

pub returns-clause-taken : goal.returns-clause-taken
returns-clause-taken c = rw (← c.self.view_is, ← c.new-reader.ensures.words) (c.step-marked.ensures.taken c.new-reader.ensures.moments)
