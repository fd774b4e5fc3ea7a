-- How the touched births grow while a cycle marks.
use Rattle.std.specs.Prelude.{◌≡◌, ◌↔◌, ◌⊎◌, ℕ, ◌<◌, ◌≤◌, Option, Some, None, true, length, Contains}
use Rattle.words.specs.declared.class.Kind.TheVariants.{Normal}
use Rattle.heap_spec.specs.declared.call.Call.{Call}
use Rattle.heap_spec.specs.declared.call.Call.TheVariants.{Store, Alloc}
use Rattle.heap_spec.specs.declared.event.Event.TheVariants.{Attach, Mutator}
use Rattle.heap_spec.specs.declared.reply.Reply.{Reply}
use Rattle.heap_spec.specs.Heap.{Heap, Object, Mutator as HeapMutator, HasObject, IsAttached, PointsIntoObject, PointsIntoNothing, root_words}
use Rattle.heap_spec.specs.Steps.{Attaches, Calls, register}
use Rattle.heap_spec.specs.Shapes.{brought_register}
use Rattle.heap_spec.specs.Runs.{Start, Run, Touched, IsBornSince, heap_after, is_marking, goes_on}
use Rattle.heap_spec.specs.Histories.{Happens}
use Rattle.heap_spec.specs.Ranges.{InRange}
use Rattle.heap_spec.specs.Sound.{IsSound, HaveDistinctBirths}

-- The objects that a word leads to: the one that it points into, and with each Normal one those that its words point into.
pub data LedTo (s : Heap) (w : ℕ) : ℕ → Type 0 where
  first : {base : ℕ} {o : Object} → PointsIntoObject s w base o → LedTo s w base
  next : {from v base : ℕ} {p o : Object} → LedTo s w from → HasObject s from p → p.kind ≡ Normal → Contains p.words v → PointsIntoObject s v base o → LedTo s w base

-- the word stands in the register of the slot
abbrev pub StandsIn : Heap → ℕ → ℕ → ℕ → Type 0
StandsIn s slot r w = (m : HeapMutator) × IsAttached s slot m × (register m r ≡ w)

-- an object was born at the base, since the heap before
abbrev pub HasNewborn : Heap → Heap → ℕ → Type 0
HasNewborn old new base = (o : Object) × HasObject new base o × IsBornSince old o.birth

-- and in this one, if there is one
abbrev pub StandsInSome : Heap → ℕ → Option ℕ → ℕ → Type 0
StandsInSome s slot None w = ⊥
StandsInSome s slot (Some r) w = StandsIn s slot r w

-- The one word that a call may have brought to a place where the collector reads it: that of the register which it writes
-- or, where it writes none, passes on; and of a request the base of the new object. Arguments: the heap before, the slot, the
-- call, the heap after, the word.
abbrev pub IsBrought : Heap → ℕ → Call → Heap → ℕ → Type 0
IsBrought s slot (Alloc d n kind) s' w = HasNewborn s s' w
IsBrought s slot call s' w = StandsInSome s' slot (brought_register call) w

-- Objects have births of their own up to the count, and words of their own, and none is at the address 0. Every sound heap
-- is so.
pub record HasApartObjects (s : Heap) : Type 0 where
  pub births : HaveDistinctBirths s.objects
  pub born : (base : ℕ) (o : Object) → HasObject s base o → o.birth ≤ s.births
  pub some : (base : ℕ) (o : Object) → HasObject s base o → 0 < length o.words
  pub one : (w a b : ℕ) (o p : Object) → PointsIntoObject s w a o → PointsIntoObject s w b p → a ≡ b
  pub zero : PointsIntoNothing s 0

-- The object at the base was touched, or is new, or one of the words leads to it.
abbrev pub IsTouchedMore : (ℕ → Type 0) → Heap → Heap → (ℕ → Type 0) → ℕ → Object → Type 0
IsTouchedMore touched old new words base o = touched o.birth ⊎ (IsBornSince old o.birth ⊎ ((w : ℕ) × words w × LedTo new w base))

-- After a call those objects are touched that were, and those that the one word leads to that it brought.
abbrev pub CallTouches : Type 0
CallTouches = (start : Start) (run : Run) (slot : ℕ) (call : Call) (reply : Reply) (s' : Heap) → is_marking start run ≡ true
    → HasApartObjects (heap_after start run) → HasApartObjects s' → Calls (heap_after start run) slot call reply s'
    → (base : ℕ) (o : Object) → HasObject s' base o
    → Touched start (goes_on run (Mutator slot call) reply s') o.birth ↔ IsTouchedMore (Touched start run) (heap_after start run) s' (IsBrought (heap_after start run) slot call s') base o

-- a mutator that comes touches nothing
abbrev pub AttachTouches : Type 0
AttachTouches = (start : Start) (run : Run) (reply : Reply) (s' : Heap) → is_marking start run ≡ true
    → HasApartObjects (heap_after start run) → HasApartObjects s' → Attaches (heap_after start run) reply s'
    → (base : ℕ) (o : Object) → HasObject s' base o
    → Touched start (goes_on run Attach reply s') o.birth ↔ Touched start run o.birth

-- a word that was a root word brings nothing but what is new
abbrev pub RootTouchesNothing : Type 0
RootTouchesNothing = (start : Start) (run : Run) (slot : ℕ) (call : Call) (reply : Reply) (s' : Heap) → is_marking start run ≡ true
    → HasApartObjects (heap_after start run) → HasApartObjects s' → Calls (heap_after start run) slot call reply s'
    → ((w : ℕ) → IsBrought (heap_after start run) slot call s' w → Contains (root_words (heap_after start run)) w)
    → (base : ℕ) (o : Object) → HasObject s' base o
    → Touched start (goes_on run (Mutator slot call) reply s') o.birth ↔ (Touched start run o.birth ⊎ IsBornSince (heap_after start run) o.birth)

-- a store touches nothing: the word that it stores stands in a register
abbrev pub StoreTouchesNothing : Type 0
StoreTouchesNothing = (start : Start) (run : Run) (slot a n r : ℕ) (reply : Reply) (s' : Heap) → is_marking start run ≡ true → IsSound (heap_after start run) → InRange (Mutator slot (Store a n r))
    → Happens start run (Mutator slot (Store a n r)) reply s' → (base : ℕ) (o : Object) → HasObject s' base o
    → Touched start (goes_on run (Mutator slot (Store a n r)) reply s') o.birth ↔ Touched start run o.birth

-- the objects of a sound heap are apart
abbrev pub SoundObjectsAreApart : Type 0
SoundObjectsAreApart = (s : Heap) → IsSound s → HasApartObjects s
