-- A core and a run of the heap.
use Rattle.std.specs.Prelude.{◌≡◌, ℕ, ◌<◌, ◌≤◌, true, false, List, [], ◌∷◌}
use Rattle.heap_spec.specs.Layout.{word_end}
use Rattle.heap_spec.specs.declared.event.Event.{Event}
use Rattle.heap_spec.specs.declared.reply.Reply.{Reply}
use Rattle.heap_spec.specs.Heap.{Object, HasObject}
use Rattle.heap_spec.specs.Runs.{Start, Run, Told, heap_after, is_marking, count, needs_full, old_births, Touched}
use Rattle.heap_spec.specs.Transcripts.{LineOf, LegalTranscript}
use Rattle.marker.specs.Marking.{IsMarked}
use Rattle.heap_core.specs.CoreContents.{CoreContents}
use Rattle.heap_core.specs.Standing.{StandsFor}

-- The core is where the run has led: it stands for the heap after it, in its phase and with its count, and it needs a full
-- cycle where the run does. While marking each marked object is touched, and while no cycle is marking exactly the old
-- objects are marked.
pub record Follows (c : CoreContents) (start : Start) (run : Run) : Type 0 where
  pub stands : StandsFor c (heap_after start run)
  pub phase : c.cycle.is_marking ≡ is_marking start run
  pub count : c.cycle.count ≡ count start run
  pub small : c.cycle.count < word_end
  pub needs : c.cycle.needs_full ≡ needs_full start run
  pub past : old_births start run ≤ (heap_after start run).births
  pub aged : c.cycle.is_marking ≡ false → (base : ℕ) (o : Object) → HasObject (heap_after start run) base o → IsMarked c.cycle.marker base → o.birth ≤ old_births start run
  pub kept : c.cycle.is_marking ≡ false → (base : ℕ) (o : Object) → HasObject (heap_after start run) base o → o.birth ≤ old_births start run → IsMarked c.cycle.marker base
  pub touched : c.cycle.is_marking ≡ true → (base : ℕ) (o : Object) → HasObject (heap_after start run) base o → IsMarked c.cycle.marker base → Touched start run o.birth

-- From each run that the core followed, the event with its reply is a line of a legal transcript to one that it follows.
abbrev pub IsLine : CoreContents → Event → Reply → CoreContents → Type 0
IsLine old event reply new = (start : Start) (run : Run) → Follows old start run → (next : Run) × LineOf start run event reply next × Follows new start next

-- the events with their replies
abbrev pub told_of : List Event → List Reply → List Told
told_of [] replies = []
told_of (event ∷ events) [] = []
told_of (event ∷ events) (reply ∷ replies) = record { event = event; reply = reply } ∷ told_of events replies

-- The same of many events with their replies.
abbrev pub AreLines : CoreContents → List Told → CoreContents → Type 0
AreLines old lines new = (start : Start) (run : Run) → Follows old start run → (last : Run) × LegalTranscript start run lines last × Follows new start last
