use Rattle.test_shared.proofs.unlocked.answers_come_while_the_lock_is_held.Given as goal

-- the heap that was just opened
abbrev pub ghosts-ask_a_held_heap : goal.ghosts-ask_a_held_heap
ghosts-ask_a_held_heap g a = record { table = a.opened.table; origin = a.opened.origin }
