-- Legal histories.
use Rattle.std.specs.Prelude.{◌≡◌, ℕ, true, false, List, [], ◌∷◌, map}
use Rattle.heap_spec.specs.declared.event.Event.{Event}
use Rattle.heap_spec.specs.declared.event.Event.TheVariants.{Attach, Mutator, Begin, BeginPartial, Roots, Mark, Retrace, Finish, Sweep, Collect, Number}
use Rattle.heap_spec.specs.declared.reply.Reply.{Reply}
use Rattle.heap_spec.specs.Heap.{Heap}
use Rattle.heap_spec.specs.Steps.{Step}
use Rattle.heap_spec.specs.Runs.{Told, Run, Start, Touched, opening_start, heap_after, is_marking, needs_full}
use Rattle.heap_spec.specs.Cycles.{Begins, Forgets, CollectsFully}

-- What may happen next in a run: an event, its reply and the heap after it. A cycle begins only while none is marking, with
-- the marks of the last one only where no full cycle is needed, and ends only while one is marking. The collector's other
-- calls are no events of a history.
abbrev pub Happens : Start → Run → Event → Reply → Heap → Type 0
Happens start run Attach reply s' = Step (heap_after start run) Attach reply s'
Happens start run (Mutator slot call) reply s' = Step (heap_after start run) (Mutator slot call) reply s'
Happens start run Begin reply s' = (is_marking start run ≡ false) × Begins (heap_after start run) reply s'
Happens start run BeginPartial reply s' = (is_marking start run ≡ false) × (needs_full start run ≡ false) × Begins (heap_after start run) reply s'
Happens start run Roots reply s' = ⊥
Happens start run (Mark n) reply s' = ⊥
Happens start run Retrace reply s' = ⊥
Happens start run Finish reply s' = (is_marking start run ≡ true) × Forgets (heap_after start run) (Touched start run) reply s'
Happens start run Sweep reply s' = ⊥
Happens start run Collect reply s' = CollectsFully (heap_after start run) reply s'
Happens start run Number reply s' = ⊥

-- each moment of a run may happen after those before it
abbrev pub IsRun : Start → Run → Type 0
IsRun start [] = Unit {0}
IsRun start (m ∷ run) = Happens start run m.told.event m.told.reply m.heap × IsRun start run

-- A history, the newest event first, is legal if it is what some run of a new heap tells.
abbrev pub LegalHistory : ℕ → List Told → Type 0
LegalHistory pages history = (run : Run) × IsRun (opening_start pages) run × (map (λ m. m.told) run ≡ history)
