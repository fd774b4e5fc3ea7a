use Rattle.written_runs.proofs.Digits.{no_number_here}
use Rattle.written_runs.proofs.reply.number_at.Goals as goal

pub returns-in_default-number : goal.returns-in_default-number
returns-in_default-number c = no_number_here _ _ _ _ c.in-Some.ensures c.cut.ensures c.in_default-number.ensures
