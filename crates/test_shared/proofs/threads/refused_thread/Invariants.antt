use Rattle.test_shared.proofs.threads.refused_thread.Given as goal

-- the heap that was just opened
abbrev pub ghosts-run_twice : goal.ghosts-run_twice
ghosts-run_twice g a = record { table = a.opened.table; origin = a.opened.origin }
