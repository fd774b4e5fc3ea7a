use Rattle.test_shared.proofs.register.two_collections_are_counted_by_all.Given as goal

-- the table that was just opened
abbrev pub ghosts-count_in_a_row : goal.ghosts-count_in_a_row
ghosts-count_in_a_row g a = record { table = a.opened.table; origin = a.opened.origin }
