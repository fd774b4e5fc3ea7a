-- What a cycle touches that began with the marks of the last one.
use Rattle.std.specs.Prelude.{◌≡◌, ℕ, ◌<◌, true}
use Rattle.heap_spec.specs.declared.event.Event.{Event}
use Rattle.heap_spec.specs.declared.event.Event.TheVariants.{BeginPartial}
use Rattle.heap_spec.specs.declared.reply.Reply.{Reply}
use Rattle.heap_spec.specs.Heap.{Heap, Object, HasObject}
use Rattle.heap_spec.specs.Runs.{Start, Run, Touched, heap_after, is_marking, old_births, goes_on}
use Rattle.heap_spec.specs.Histories.{Happens}

-- A run is in a cycle that began after an earlier run with the marks of the last one: it has gone on from there, and is marking.
pub data IsInPartial (start : Start) (earlier : Run) : Run → Type 0 where
  begins : {reply : Reply} {s' : Heap} → Happens start earlier BeginPartial reply s' → IsInPartial start earlier (goes_on earlier BeginPartial reply s')
  on : {run : Run} {event : Event} {reply : Reply} {s' : Heap} → IsInPartial start earlier run → Happens start run event reply s'
      → is_marking start (goes_on run event reply s') ≡ true → IsInPartial start earlier (goes_on run event reply s')

-- In such a cycle what isn't touched was allocated since the last collection.
abbrev pub UntouchedAreYoung : Type 0
UntouchedAreYoung = (start : Start) (earlier run : Run) → IsInPartial start earlier run
    → (base : ℕ) (o : Object) → HasObject (heap_after start run) base o → (Touched start run o.birth → ⊥) → old_births start earlier < o.birth
