-- Runs: what happened so far, from a start.
use Rattle.std.specs.Prelude.{◌≡◌, ℕ, ◌+◌, ◌%◌, ◌<◌, ◌≤◌, Bool, true, false, List, [], ◌∷◌, ◌⊎◌}
use Rattle.heap_spec.specs.declared.event.Event.{Event}
use Rattle.heap_spec.specs.declared.event.Event.TheVariants.{Attach, Mutator, Begin, BeginPartial, Roots, Mark, Retrace, Finish, Sweep, Collect, Number}
use Rattle.heap_spec.specs.declared.call.Call.TheVariants.{Free}
use Rattle.heap_spec.specs.declared.reply.Reply.{Reply}
use Rattle.heap_spec.specs.declared.reply.Reply.TheVariants.{Done}
use Rattle.heap_spec.specs.Layout.{word_end}
use Rattle.heap_spec.specs.Heap.{Heap, opening}
use Rattle.heap_spec.specs.Closure.{IsInClosure, IsReachedBirth}

-- an event with its reply
pub record Told : Type 0 where
  pub event : Event
  pub reply : Reply

-- A moment of a run: an event with its reply, and the heap after it.
pub record Moment : Type 0 where
  pub told : Told
  pub heap : Heap

-- Where a run begins: the heap, whether a cycle is marking, the count of collections, whether a full cycle is needed, and how
-- many allocations were granted before the last collection.
pub record Start : Type 0 where
  pub heap : Heap
  pub marking : Bool
  pub count : ℕ
  pub needs_full : Bool
  pub old_births : ℕ

-- the start of a new heap of so many pages
abbrev pub opening_start : ℕ → Start
opening_start pages = record { heap = opening pages; marking = false; count = 0; needs_full = true; old_births = 0 }

-- A run is its moments, the newest first.
abbrev pub Run : Type 0
Run = List Moment

-- the run after one moment more
abbrev pub goes_on : Run → Event → Reply → Heap → Run
goes_on run event reply s' = record { told = record { event = event; reply = reply }; heap = s' } ∷ run

-- the heap that a run leads to
abbrev pub heap_after : Start → Run → Heap
heap_after start [] = start.heap
heap_after start (m ∷ run) = m.heap

-- whether the heap is marking after an event, from whether it was before
abbrev pub marking_after : Event → Bool → Bool
marking_after Attach before = before
marking_after (Mutator slot call) before = before
marking_after Begin before = true
marking_after BeginPartial before = true
marking_after Roots before = before
marking_after (Mark n) before = before
marking_after Retrace before = before
marking_after Finish before = false
marking_after Sweep before = before
marking_after Collect before = false
marking_after Number before = before

-- The heap is marking if the last of the run's Begin, BeginPartial, Finish and Collect is one of the first two.
abbrev pub is_marking : Start → Run → Bool
is_marking start [] = start.marking
is_marking start (m ∷ run) = marking_after m.told.event (is_marking start run)

-- what an event adds to the count of collections
abbrev pub counted : Event → ℕ
counted Attach = 0
counted (Mutator slot call) = 0
counted Begin = 0
counted BeginPartial = 0
counted Roots = 0
counted (Mark n) = 0
counted Retrace = 0
counted Finish = 1
counted Sweep = 0
counted Collect = 1
counted Number = 0

-- the count of collections, modulo 2 ^ 64
abbrev pub count : Start → Run → ℕ
count start [] = start.count
count start (m ∷ run) = (count start run + counted m.told.event) % word_end

-- Whether a full cycle is needed after an event with this reply, from whether one was before: a free that was done needs
-- one, and an event that lets go of all marks needs none.
abbrev pub needs_full_after : Event → Reply → Bool → Bool
needs_full_after Attach reply before = before
needs_full_after (Mutator slot (Free r)) Done before = true
needs_full_after (Mutator slot call) reply before = before
needs_full_after Begin reply before = false
needs_full_after BeginPartial reply before = before
needs_full_after Roots reply before = before
needs_full_after (Mark n) reply before = before
needs_full_after Retrace reply before = before
needs_full_after Finish reply before = before
needs_full_after Sweep reply before = before
needs_full_after Collect reply before = false
needs_full_after Number reply before = before

-- Whether a full cycle is needed: there was no Begin and no Collect yet, or a free was done since the last of them. While no
-- cycle is marking that is: no collection was yet; or the last was a Collect, and a free was done since; or the last was a
-- Finish, and a free was done since the Begin or BeginPartial of its cycle.
abbrev pub needs_full : Start → Run → Bool
needs_full start [] = start.needs_full
needs_full start (m ∷ run) = needs_full_after m.told.event m.told.reply (needs_full start run)

-- the births that are old after an event, from how many allocations were granted and which were old before
abbrev pub old_births_after : Event → ℕ → ℕ → ℕ
old_births_after Attach births before = before
old_births_after (Mutator slot call) births before = before
old_births_after Begin births before = before
old_births_after BeginPartial births before = before
old_births_after Roots births before = before
old_births_after (Mark n) births before = before
old_births_after Retrace births before = before
old_births_after Finish births before = births
old_births_after Sweep births before = before
old_births_after Collect births before = births
old_births_after Number births before = before

-- how many allocations were granted before the last collection: the objects of these births are old
abbrev pub old_births : Start → Run → ℕ
old_births start [] = start.old_births
old_births start (m ∷ run) = old_births_after m.told.event m.heap.births (old_births start run)

-- the birth is that of an allocation after this heap
abbrev pub IsBornSince : Heap → ℕ → Type 0
IsBornSince old birth = old.births < birth

-- the births that stay touched: the closure of those that were, and of what was allocated since the heap before
abbrev pub StaysTouched : (ℕ → Type 0) → Heap → Heap → ℕ → Type 0
StaysTouched before old new = IsInClosure new (λ birth. before birth ⊎ IsBornSince old birth)

-- the births that are touched after an event, from the last of the old births, the births that were touched before it and
-- the heaps before and after
abbrev pub touched_after : Event → ℕ → (ℕ → Type 0) → Heap → Heap → ℕ → Type 0
touched_after Attach last before old new = StaysTouched before old new
touched_after (Mutator slot call) last before old new = StaysTouched before old new
touched_after Begin last before old new = IsReachedBirth new
touched_after BeginPartial last before old new = IsInClosure new (λ birth. birth ≤ last)
touched_after Roots last before old new = StaysTouched before old new
touched_after (Mark n) last before old new = StaysTouched before old new
touched_after Retrace last before old new = StaysTouched before old new
touched_after Finish last before old new = StaysTouched before old new
touched_after Sweep last before old new = StaysTouched before old new
touched_after Collect last before old new = StaysTouched before old new
touched_after Number last before old new = StaysTouched before old new

-- The touched births: at the Begin of a cycle those of the reached objects, at a BeginPartial the closure of the old births
-- and what is reached, and after each later event the closure of those
-- before and of what the event allocated. Of a cycle that was marking at the start nothing is known.
abbrev pub Touched : Start → Run → ℕ → Type 0
Touched start [] birth = start.marking ≡ true
Touched start (m ∷ run) birth = touched_after m.told.event (old_births start run) (Touched start run) (heap_after start run) m.heap birth
