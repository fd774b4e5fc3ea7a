use Rattle.test_shared.proofs.rows.a_new_mutator_has_words_of_0.Given as goal

-- the heap that was just opened
abbrev pub ghosts-check : goal.ghosts-check
ghosts-check g a = record { table = a.opened.table; origin = a.opened.origin }
