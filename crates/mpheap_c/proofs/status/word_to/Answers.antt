use Rattle.std.proofs.Common.{refl, ◌∙◌}
use Rattle.mpheap_c.proofs.status.word_to.Goals as goal

pub returns-in-Ok : goal.returns-in-Ok
returns-in-Ok c = rw c.in-Ok.is (refl, refl)

pub returns-in-Err : goal.returns-in-Err
returns-in-Err c = rw c.in-Err.is (c.from.ensures ∙ c.code.ensures, refl)
