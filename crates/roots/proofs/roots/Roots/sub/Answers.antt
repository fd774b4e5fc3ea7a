use Rattle.roots.proofs.Refusals.{handed_on}
use Rattle.roots.proofs.Steps.{refused, sets, subtracted}
use Rattle.roots.proofs.roots.Roots.sub.Goals as goal

pub returns-in_err-mutator : goal.returns-in_err-mutator
returns-in_err-mutator c = rw (handed_on _ _ _ c.from_residual.ensures.1 c.in_err-mutator.ensures.err.0) (refused _ _ _ c.in_err-mutator.ensures.err.1)

pub returns : goal.returns
returns c = sets _ _ _ _ _ c.in_ok-mutator.mutator.now _ _ c.in_ok-mutator.ensures.ok c.set_word.ensures
    (λ s. subtracted _ _ c.in_ok-mutator.mutator.now _ _ _ c.word.result c.word-2.result c.word.ensures c.word-2.ensures c.word-2.type_inv)
