use Rattle.test_shared.proofs.scenes.a_refused_open_can_be_made_again.Given as goal

-- the heap that was just opened
abbrev pub ghosts-count_in_a_row : goal.ghosts-count_in_a_row
ghosts-count_in_a_row g a = record { table = a.opened.table; origin = a.opened.origin }
