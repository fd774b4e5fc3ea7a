use Rattle.test_shared.proofs.stress.no_list_loses_a_node.Given as goal

-- the heap that was just opened
abbrev pub ghosts-sixteen_mutators : goal.ghosts-sixteen_mutators
ghosts-sixteen_mutators g a = record { table = a.opened.table; origin = a.opened.origin }
