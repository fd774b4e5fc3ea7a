use Rattle.bench.proofs.locked.measure.Given as goal

-- the heap that was just opened
abbrev pub ghosts-measure_named : goal.ghosts-measure_named
ghosts-measure_named g a = record { table = a.opened.table; origin = a.opened.origin }
