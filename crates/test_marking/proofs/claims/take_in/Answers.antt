use Rattle.std.proofs.Common.{ap, ◌∙◌}
use Rattle.mark_bits.specs.declared.claimer_view.ClaimerView.{ClaimerView}
use Rattle.mark_bits.specs.Claims.{knows}
use Rattle.mark_bits.proofs.Words.{shows-right}
use Rattle.test_marking.proofs.claims.take_in.Goals as goal

pub returns-clause-known : goal.returns-clause-known
returns-clause-known c k lt = ap (λ (v : ClaimerView). knows v k) c.join.ensures.joined ∙ shows-right k _ _ (c.requires.all k lt)
