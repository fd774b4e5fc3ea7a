-- The heap as a sequential object: its states are runs.
use Rattle.std.specs.Prelude.{◌≡◌, ℕ, ◌<◌, ◌≤◌, []}
use Rattle.words.specs.declared.limits.TheConstants.{SLOTS, MAX_PAGES}
use Rattle.heap_spec.specs.declared.event.Event.{Event}
use Rattle.heap_spec.specs.declared.event.Event.TheVariants.{Attach, Mutator, Begin, BeginPartial, Roots, Mark, Retrace, Finish, Sweep, Collect, Number}
use Rattle.heap_spec.specs.declared.reply.Reply.{Reply}
use Rattle.heap_spec.specs.Heap.{Heap, Mutator as HeapMutator, IsAttached}
use Rattle.heap_spec.specs.Steps.{IsLowestVacant}
use Rattle.heap_spec.specs.Runs.{Run, opening_start, heap_after, goes_on}
use Rattle.heap_spec.specs.Histories.{Happens}
use Rattle.heap_spec.specs.Ranges.{InRange}

-- A state of the heap: its pages, and its run so far.
pub record HeapState : Type 0 where
  pub pages : ℕ
  pub run : Run

-- A state opens a heap of so many pages, which are within the limit, if nothing happened yet.
pub record Opens (pages : ℕ) (state : HeapState) : Type 0 where
  pub pages_are : state.pages ≡ pages
  pub some_page : 1 ≤ state.pages
  pub few_pages : state.pages ≤ MAX_PAGES
  pub nothing : state.run ≡ []

-- the heap of a state
abbrev pub heap_of : HeapState → Heap
heap_of state = heap_after (opening_start state.pages) state.run

-- The slot is the caller's own, and a mutator is attached there.
pub record IsCaller (s : Heap) (who slot : ℕ) : Type 0 where
  pub range : who < SLOTS
  pub own : who ≡ slot
  pub mutator : HeapMutator
  pub attached : IsAttached s who mutator

-- Who may make an event: an attached mutator its own calls, and a collector, who is number 16, its own. An attach is made by
-- the slot that it gets.
abbrev pub MayMake : Heap → ℕ → Event → Type 0
MayMake s who Attach = (who < SLOTS) × IsLowestVacant s who
MayMake s who (Mutator slot call) = IsCaller s who slot
MayMake s who Begin = who ≡ SLOTS
MayMake s who BeginPartial = who ≡ SLOTS
MayMake s who Finish = who ≡ SLOTS
MayMake s who Collect = who ≡ SLOTS
MayMake s who Roots = ⊥
MayMake s who (Mark n) = ⊥
MayMake s who Retrace = ⊥
MayMake s who Sweep = ⊥
MayMake s who Number = ⊥

-- One step of a state: who makes the event fits it, its numbers are in range, and the run goes on by it.
pub record StateStep (state : HeapState) (who : ℕ) (event : Event) (reply : Reply) (next : HeapState) : Type 0 where
  pub fits : MayMake (heap_of state) who event
  pub in_range : InRange event
  pub heap : Heap
  pub happens : Happens (opening_start state.pages) state.run event reply heap
  pub goes : next ≡ record { pages = state.pages; run = goes_on state.run event reply heap }
