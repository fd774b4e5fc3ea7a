use Rattle.std.proofs.Common.{arith, ◌∙◌}
use Rattle.written_runs.proofs.command.pages_given.Goals as goal

pub returns-in_err-pages-clause-given : goal.returns-in_err-pages-clause-given
returns-in_err-pages-clause-given c = rw c.from_residual.ensures (λ pages count.
    let few = count.few in
    c.in_err-pages.ensures pages count.some (omega (arith, few)) (c.as_bytes.ensures.value ∙ count.text_is))
