use Rattle.written_runs.proofs.Verdicts.{one_verdict}
use Rattle.written_runs.proofs.laws.runs_have_one_verdict.Goals as goal

pub returns : goal.returns
returns c = one_verdict
