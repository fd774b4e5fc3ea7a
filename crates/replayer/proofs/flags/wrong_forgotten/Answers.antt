use Rattle.std.proofs.Common.{subst}
use Rattle.plain_heap.specs.Wrongs.{TellsUnforgotten}
use Rattle.replayer.proofs.flags.wrong_forgotten.Goals as goal

pub returns-clause-wrong : goal.returns-clause-wrong
returns-clause-wrong c = subst (λ f. TellsUnforgotten c.args.heap.now f c.args.bases.now c.wrong_forgotten.result) c.deref.ensures.value c.wrong_forgotten.ensures.wrong
