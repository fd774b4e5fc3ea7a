use Rattle.test_shared.proofs.register.a_cycle_begins_and_ends_once.Given as goal

-- the table that was just opened
abbrev pub ghosts-run_cycles : goal.ghosts-run_cycles
ghosts-run_cycles g a = record { table = a.opened.table; origin = a.opened.origin }
