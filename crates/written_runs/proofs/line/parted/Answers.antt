use Rattle.std.proofs.Common.{ℕ, ◌∙◌, ap, ◌∷◌, ◌++◌, []}
use Rattle.written_runs.proofs.Parting.{parted_cut, parted_here, no_space}
use Rattle.written_runs.proofs.line.parted.Goals as goal

pub returns-in_err-answer : goal.returns-in_err-answer
returns-in_err-answer c = rw c.from_residual.ensures (λ text answer is. c.in_err-answer.ensures answer (parted_cut _ _ _ text answer c.cut.ensures is).rest)

pub returns-then-space-ne32 : goal.returns-then-space-ne32
returns-then-space-ne32 c = no_space _ _ _ _ _ c.cut.ensures c.in_ok-space.ensures.cases.0 c.if-space-ne32.true

pub returns : goal.returns
returns c =
    let front = c.in_ok-space.ensures.cases.0 ∙ ap (λ (b : ℕ). c.in_ok-space.text.now ++ b ∷ []) c.if-space-ne32.false in
    parted_here _ _ _ _ _ c.cut.ensures c.in_ok-answer.ensures front
