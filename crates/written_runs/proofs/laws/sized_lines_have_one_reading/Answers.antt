use Rattle.written_runs.proofs.Readings.{one_sized_reading}
use Rattle.written_runs.proofs.laws.sized_lines_have_one_reading.Goals as goal

pub returns : goal.returns
returns c = one_sized_reading
