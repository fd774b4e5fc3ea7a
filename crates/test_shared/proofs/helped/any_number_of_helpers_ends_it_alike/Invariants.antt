use Rattle.test_shared.proofs.helped.any_number_of_helpers_ends_it_alike.Given as goal

-- the heap that was just opened
abbrev pub ghosts-end_cycles : goal.ghosts-end_cycles
ghosts-end_cycles g a = record { table = a.opened.table; origin = a.opened.origin }
