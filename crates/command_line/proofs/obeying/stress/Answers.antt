use Rattle.command_line.proofs.obeying.stress.Goals as goal

pub returns-clause-does : goal.returns-clause-does
returns-clause-does g c = record { ended = c.write_stress.result; follows = c.faulted.ensures; written = c.write_stress.ensures.written }
