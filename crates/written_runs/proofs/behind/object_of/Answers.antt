use Rattle.written_runs.proofs.Hints.{no_second}
use Rattle.written_runs.proofs.behind.object_of.Goals as goal

pub returns-in_default-only_number : goal.returns-in_default-only_number
returns-in_default-only_number c = no_second _ _ _ c.in-Some.ensures c.in_default-only_number.ensures
