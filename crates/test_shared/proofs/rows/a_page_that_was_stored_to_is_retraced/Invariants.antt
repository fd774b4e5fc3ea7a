use Rattle.test_shared.proofs.rows.a_page_that_was_stored_to_is_retraced.Given as goal

-- the heap that was just opened
abbrev pub ghosts-check : goal.ghosts-check
ghosts-check g a = record { table = a.opened.table; origin = a.opened.origin }
