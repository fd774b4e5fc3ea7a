use Rattle.test_shared.proofs.helped.refused_memory.Given as goal

-- the heap that was just opened
abbrev pub ghosts-end_cycles : goal.ghosts-end_cycles
ghosts-end_cycles g a = record { table = a.opened.table; origin = a.opened.origin }
