use Rattle.workloads.proofs.threads.run_with.Given as goal

-- the table that was just opened
abbrev pub ghosts-run_named : goal.ghosts-run_named
ghosts-run_named g a = record { table = a.opened.table; origin = a.opened.origin }
