use Rattle.heap_spec.specs.Runs.{heap_after}
use Rattle.replayer.proofs.replayer.Replayer.keeper.Goals as goal

pub returns-clause-keeper : goal.returns-clause-keeper
returns-clause-keeper c = rw (← c.self.view_is) (λ start run f. c.keeper.ensures.keeper (heap_after start run) f.stands)
