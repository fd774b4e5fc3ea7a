-- The laws of the sequential heap, each a statement of its own.
use Rattle.std.specs.Prelude.{◌≡◌, ◌↔◌, ◌⊎◌, ℕ, ◌+◌, ◌*◌, ◌<◌, ◌≤◌, Bool, true, length, slice_index, Contains, All}
use Rattle.words.specs.declared.limits.TheConstants.{MAX_PAGES, WORD_BYTES}
use Rattle.words.specs.declared.class.Kind.TheVariants.{Normal}
use Rattle.words.specs.declared.refusal.Refusal.{Refusal}
use Rattle.heap_spec.specs.declared.call.Call.{Call}
use Rattle.heap_spec.specs.declared.call.Call.TheVariants.{Load, Store, Alloc}
use Rattle.heap_spec.specs.declared.event.Event.{Event}
use Rattle.heap_spec.specs.declared.event.Event.TheVariants.{Finish, Collect}
use Rattle.heap_spec.specs.declared.reply.Reply.{Reply}
use Rattle.heap_spec.specs.declared.reply.Reply.TheVariants.{Done, Word, Refused}
use Rattle.heap_spec.specs.Heap.{Heap, Object, Mutator, Link, IsSameObject, HasObject, PointsIntoObject, IsAttached, root_words}
use Rattle.heap_spec.specs.Closure.{Closure, Reached, IsInClosure}
use Rattle.heap_spec.specs.Steps.{Calls, Step, register}
use Rattle.heap_spec.specs.Shapes.{written_register, written_global, IsOther}
use Rattle.heap_spec.specs.Runs.{Start, Run, opening_start, heap_after, IsBornSince, Touched}
use Rattle.heap_spec.specs.Histories.{Happens, IsRun}
use Rattle.heap_spec.specs.Ranges.{InRange}
use Rattle.heap_spec.specs.Sound.{IsSound, HaveDistinctBirths, LieInHeap}

-- a number is in a set
abbrev pub IsIn : (ℕ → Bool) → ℕ → Type 0
IsIn set n = set n ≡ true

-- The rules of a closure keep a set of bases: it has the objects of the births, those that root words point into,
-- and with a Normal object those that its words point into.
pub record KeepsRules (s : Heap) (births bases : ℕ → Type 0) : Type 0 where
  pub given : (base : ℕ) (o : Object) → HasObject s base o → births o.birth → bases base
  pub root : (w base : ℕ) (o : Object) → Contains (root_words s) w → PointsIntoObject s w base o → bases base
  pub word : (from w base : ℕ) (p o : Object) → bases from → HasObject s from p → p.kind ≡ Normal → Contains p.words w → PointsIntoObject s w base o → bases base

-- The closure of some births is a set that the rules keep, and lies in each such set.
pub record ClosureIsLeast : Type 0 where
  pub keeps : (s : Heap) (births : ℕ → Bool) → KeepsRules s (IsIn births) (Closure s (IsIn births))
  pub least : (s : Heap) (births bases : ℕ → Bool) → KeepsRules s (IsIn births) (IsIn bases) → (base : ℕ) → Closure s (IsIn births) base → IsIn bases base

-- more births have a larger closure
abbrev pub ClosureIsMonotone : Type 0
ClosureIsMonotone = (s : Heap) (births more : ℕ → Bool) → ((birth : ℕ) → IsIn births birth → IsIn more birth)
    → (base : ℕ) → Closure s (IsIn births) base → Closure s (IsIn more) base

-- the closure of a closure is that closure
abbrev pub ClosureIsIdempotent : Type 0
ClosureIsIdempotent = (s : Heap) (births : ℕ → Bool) → HaveDistinctBirths s.objects
    → (birth : ℕ) → IsInClosure s (IsInClosure s (IsIn births)) birth ↔ IsInClosure s (IsIn births) birth

-- A run of a new heap of so many pages, all of whose events are in range.
pub record IsRunFromOpening (pages : ℕ) (run : Run) : Type 0 where
  pub some_page : 1 ≤ pages
  pub few_pages : pages ≤ MAX_PAGES
  pub in_range : All (λ m. InRange m.told.event) run
  pub is_run : IsRun (opening_start pages) run

-- the heap is sound after every run
abbrev pub RunsAreSound : Type 0
RunsAreSound = (pages : ℕ) (run : Run) → IsRunFromOpening pages run → IsSound (heap_after (opening_start pages) run)

-- whatever happens next leaves a sound heap sound
abbrev pub HappensKeepsSound : Type 0
HappensKeepsSound = (start : Start) (run : Run) (event : Event) (reply : Reply) (s' : Heap) → IsSound (heap_after start run) → InRange event → Happens start run event reply s' → IsSound s'

-- each object of a sound heap has words, lies in the heap, and begins at a granule
abbrev pub ObjectsLieInHeap : Type 0
ObjectsLieInHeap = (s : Heap) → IsSound s → (base : ℕ) (o : Object) → HasObject s base o → LieInHeap s.pages base (length o.words)

-- a word points into at most one object of a sound heap
abbrev pub PointsIntoAtMostOne : Type 0
PointsIntoAtMostOne = (s : Heap) → IsSound s → (w a b : ℕ) (o p : Object) → PointsIntoObject s w a o → PointsIntoObject s w b p → a ≡ b

-- the touched births are closed at every moment
abbrev pub TouchedIsClosed : Type 0
TouchedIsClosed = (pages : ℕ) (run : Run) → IsRunFromOpening pages run
    → (birth : ℕ) → IsInClosure (heap_after (opening_start pages) run) (Touched (opening_start pages) run) birth → Touched (opening_start pages) run birth

-- at every moment each reached object is touched
abbrev pub TouchedHoldsReached : Type 0
TouchedHoldsReached = (pages : ℕ) (run : Run)
    → (base : ℕ) (o : Object) → HasObject (heap_after (opening_start pages) run) base o → Reached (heap_after (opening_start pages) run) base → Touched (opening_start pages) run o.birth

-- A link stood at the address, to an object that is not reached.
pub record HadLink (s : Heap) (a : ℕ) : Type 0 where
  pub link : Link
  pub stood : Contains s.links link
  pub at : link.address ≡ a
  pub named : ℕ
  pub object : Object
  pub has : HasObject s named object
  pub names : object.birth ≡ link.birth
  pub unreached : Reached s named → ⊥

-- the word at an address is as it was, or it was that of a link to an object that is not reached, and is 0 now
abbrev pub IsKeptWord : Heap → ℕ → ℕ → ℕ → Type 0
IsKeptWord s a old new = (new ≡ old) ⊎ ((new ≡ 0) × HadLink s a)

-- Each reached object is there still, and its words are as they were, but for those of links to objects that aren't.
pub record KeepsReached (s s' : Heap) : Type 0 where
  pub stays : (base : ℕ) (o : Object) → HasObject s base o → Reached s base → (p : Object) × HasObject s' base p × IsSameObject o p
  pub words : (base : ℕ) (o p : Object) → HasObject s base o → Reached s base → HasObject s' base p
      → (i : ℕ) → IsKeptWord s (base + WORD_BYTES * i) (slice_index o.words i) (slice_index p.words i)

-- Each object was there before, and was reached: that it was not reached can't be, since what a collection takes out are
-- exactly the objects of which that is so.
abbrev pub HasOnlyReached : Heap → Heap → Type 0
HasOnlyReached s s' = (base : ℕ) (p : Object) → HasObject s' base p → ((o : Object) × HasObject s base o × IsSameObject o p) × ((Reached s base → ⊥) → ⊥)

-- the end of a cycle keeps what is reached
abbrev pub FinishKeepsReached : Type 0
FinishKeepsReached = (start : Start) (run : Run) (reply : Reply) (s' : Heap) → Happens start run Finish reply s' → KeepsReached (heap_after start run) s'

-- a full collection keeps what is reached, and no other object
abbrev pub CollectKeepsReached : Type 0
CollectKeepsReached = (start : Start) (run : Run) (reply : Reply) (s' : Heap) → Happens start run Collect reply s'
    → KeepsReached (heap_after start run) s' × HasOnlyReached (heap_after start run) s'

-- The object was there before the step, or was born in it.
abbrev pub IsOldOrNew : Heap → ℕ → Object → Type 0
IsOldOrNew s base p = ((o : Object) × HasObject s base o × IsSameObject o p) ⊎ IsBornSince s p.birth

-- after a step each object is an old one, or was born in it
abbrev pub StepBirths : Type 0
StepBirths = (s : Heap) (event : Event) (reply : Reply) (s' : Heap) → Step s event reply s' → (base : ℕ) (p : Object) → HasObject s' base p → IsOldOrNew s base p

-- After a store, a load at the same place by the same mutator answers the word that was stored.
abbrev pub LoadAnswersStored : Type 0
LoadAnswersStored = (s : Heap) → IsSound s → (slot : ℕ) (m : Mutator) → IsAttached s slot m
    → (a n r d : ℕ) (s' s'' : Heap) (reply : Reply) → Calls s slot (Store a n r) Done s' → Calls s' slot (Load d a n) reply s''
    → reply ≡ Word (register m r)

-- a refused call changes nothing
abbrev pub RefusedChangesNothing : Type 0
RefusedChangesNothing = (s : Heap) (slot : ℕ) (call : Call) (why : Refusal) (s' : Heap) → Calls s slot call (Refused why) s' → s' ≡ s

-- a call leaves each register of its mutator but the one that it writes
abbrev pub CallsLeaveRegisters : Type 0
CallsLeaveRegisters = (s : Heap) (slot : ℕ) (call : Call) (reply : Reply) (s' : Heap) → Calls s slot call reply s' → (m m' : Mutator) → IsAttached s slot m → IsAttached s' slot m'
    → (d : ℕ) → IsOther d (written_register call) → register m' d ≡ register m d

-- and each global
abbrev pub CallsLeaveGlobals : Type 0
CallsLeaveGlobals = (s : Heap) (slot : ℕ) (call : Call) (reply : Reply) (s' : Heap) → Calls s slot call reply s' → (g : ℕ) → IsOther g (written_global call) → slice_index s'.globals g ≡ slice_index s.globals g

-- the call is no allocation
abbrev pub IsNoAlloc : Call → Type 0
IsNoAlloc (Alloc d n kind) = ⊥
IsNoAlloc _ = Unit {0}

-- No word points into two objects, and each object has words, as in every sound heap.
pub record IsLegible (s : Heap) : Type 0 where
  pub one : (w a b : ℕ) (o p : Object) → PointsIntoObject s w a o → PointsIntoObject s w b p → a ≡ b
  pub some : (base : ℕ) (o : Object) → HasObject s base o → 0 < length o.words

-- A call has one reply, and one heap after it too, but for the place that an allocation takes.
abbrev pub CallsHaveOneOutcome : Type 0
CallsHaveOneOutcome = (s : Heap) → IsLegible s → (slot : ℕ) (call : Call) (reply reply' : Reply) (t t' : Heap)
    → Calls s slot call reply t → Calls s slot call reply' t' → (reply ≡ reply') × (IsNoAlloc call → t ≡ t')
