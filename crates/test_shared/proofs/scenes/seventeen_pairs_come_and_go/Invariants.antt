use Rattle.test_shared.proofs.scenes.seventeen_pairs_come_and_go.Given as goal

-- the heap that was just opened
abbrev pub ghosts-come_and_go : goal.ghosts-come_and_go
ghosts-come_and_go g a = record { table = a.opened.table; origin = a.opened.origin }
