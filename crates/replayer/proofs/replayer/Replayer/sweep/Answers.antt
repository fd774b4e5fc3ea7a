use Rattle.std.proofs.lemmas.Bool.{leb-true}
use Rattle.replayer.proofs.Steps.{sweep_stays}
use Rattle.replayer.proofs.replayer.Replayer.sweep.Goals as goal

pub returns-clause-yes : goal.returns-clause-yes
returns-clause-yes c done hint = rw c.in-Some.ensures.some (sweep_stays c.args.self.now c.limits.ensures.number c.limits.ensures.births c.in-Some.n hint (leb-true _ _ done))
