use Rattle.std.proofs.Common.{◌∙◌}
use Rattle.std.proofs.lemmas.Bool.{eqb-true}
use Rattle.replayer.proofs.Steps.{number_stays}
use Rattle.replayer.proofs.replayer.Replayer.count.Goals as goal

pub returns-clause-yes : goal.returns-clause-yes
returns-clause-yes c done hint = rw c.in-Some.ensures.some (number_stays c.args.self.now c.limits.ensures.number c.limits.ensures.births c.in-Some.n hint (eqb-true _ _ done ∙ c.collections.ensures))
