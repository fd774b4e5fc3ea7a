use Rattle.test_shared.proofs.alone.no_call_brings_a_mutator.Given as goal

-- the heap that was just opened
abbrev pub ghosts-check : goal.ghosts-check
ghosts-check g a = record { table = a.opened.table; origin = a.opened.origin }
