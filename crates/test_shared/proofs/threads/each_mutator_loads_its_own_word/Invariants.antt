use Rattle.test_shared.proofs.threads.each_mutator_loads_its_own_word.Given as goal

-- the heap that was just opened
abbrev pub ghosts-two_mutators : goal.ghosts-two_mutators
ghosts-two_mutators g a = record { table = a.opened.table; origin = a.opened.origin }
