use Rattle.record.proofs.Runs.{run_one}
use Rattle.record.proofs.writing.put_command.Goals as goal

pub returns : goal.returns
returns g c = run_one c.put_line.result _ _ _ _ _ _ c.in_ok-text.ensures c.put_line.ensures.ok
