use Rattle.std.proofs.Common.{inl}
use Rattle.command_line.proofs.obeying.threads.Goals as goal

pub returns-clause-does : goal.returns-clause-does
returns-clause-does g c = inl (c.in_ok-workload.workload.inner, c.run_workload.new.reader.inner, record { ended = c.run_workload.result; follows = c.faulted.ensures; kept = c.run_workload.ensures.serves })
