use Rattle.heap_spec.specs.Runs.{opening_start}
use Rattle.heap_core.proofs.quiet.WrittenQuietCore.run.Goals as goal

pub returns-clause-keeps : goal.returns-clause-keeps
returns-clause-keeps c = λ state follows. c.written.ensures.follows (opening_start state.pages) state.run follows
