use Rattle.command_line.proofs.obeying.run.Goals as goal

pub returns-clause-does : goal.returns-clause-does
returns-clause-does g c = record { ended = c.run_script.result; follows = c.faulted.ensures; kept = c.run_script.ensures.serves }
