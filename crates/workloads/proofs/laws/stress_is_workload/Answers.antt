use Rattle.workloads.proofs.StressLines.{stress_workload}
use Rattle.workloads.proofs.laws.stress_is_workload.Goals as goal

pub returns : goal.returns
returns c = stress_workload
