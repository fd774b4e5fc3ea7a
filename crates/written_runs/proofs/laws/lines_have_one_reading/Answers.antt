use Rattle.written_runs.proofs.Readings.{one_reading}
use Rattle.written_runs.proofs.laws.lines_have_one_reading.Goals as goal

pub returns : goal.returns
returns c = one_reading
