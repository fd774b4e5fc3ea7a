use Rattle.test_shared.proofs.register.threads_leave_one_history.Given as goal

-- the table that was just opened
abbrev pub ghosts-add_in_threads : goal.ghosts-add_in_threads
ghosts-add_in_threads g a = record { table = a.opened.table; origin = a.opened.origin }
