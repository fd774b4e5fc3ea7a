use Rattle.test_shared.proofs.departed.a_mutator_that_left_is_heard.Given as goal

-- the heap that was just opened
abbrev pub ghosts-check : goal.ghosts-check
ghosts-check g a = record { table = a.opened.table; origin = a.opened.origin }
