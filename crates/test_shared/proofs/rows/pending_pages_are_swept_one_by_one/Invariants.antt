use Rattle.test_shared.proofs.rows.pending_pages_are_swept_one_by_one.Given as goal

-- the heap that was just opened
abbrev pub ghosts-check : goal.ghosts-check
ghosts-check g a = record { table = a.opened.table; origin = a.opened.origin }
