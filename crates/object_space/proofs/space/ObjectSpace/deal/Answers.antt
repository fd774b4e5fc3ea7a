use Rattle.std.proofs.Common.{[]}
use Rattle.std.proofs.lemmas.Result.{IfOk-weaker}
use Rattle.object_space.proofs.space.ObjectSpace.deal.Goals as goal

pub returns-clause-round : goal.returns-clause-round
returns-clause-round c = rw (← c.self.view_is) (IfOk-weaker c.deal.result _ _ (λ d h. h c.self.inside.memory [] c.self.invariant.listed.size) c.deal.ensures.round)
