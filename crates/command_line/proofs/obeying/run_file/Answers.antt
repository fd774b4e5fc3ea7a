use Rattle.std.proofs.Common.{inl}
use Rattle.command_line.proofs.obeying.run_file.Goals as goal

pub returns-clause-does : goal.returns-clause-does
returns-clause-does g c = inl (c.in_ok-script.script.inner, c.run_script.new.reader.inner, record { ended = c.run_script.result; follows = c.faulted.ensures; kept = c.run_script.ensures.serves })
