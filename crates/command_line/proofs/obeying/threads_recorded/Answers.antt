use Rattle.std.proofs.Common.{inl}
use Rattle.command_line.proofs.obeying.threads_recorded.Goals as goal

pub returns-clause-does : goal.returns-clause-does
returns-clause-does g c = let does = c.run_recorded.ensures.does in inl (c.in_ok-workload.workload.inner, c.run_recorded.new.input.inner, record { ended = does.ended; follows = does.follows; kept = does.kept })
