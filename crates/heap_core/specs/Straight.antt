-- What calls that a client makes one after another are to the runs that a core followed.
use Rattle.std.specs.Prelude.{List, [], ◌∷◌}
use Rattle.heap_spec.specs.declared.event.Event.{Event}
use Rattle.heap_spec.specs.declared.reply.Reply.{Reply}
use Rattle.heap_spec.specs.Runs.{Told}
use Rattle.heap_core.specs.Acts.{IsAct}
use Rattle.heap_core.specs.CoreContents.{CoreContents}
use Rattle.heap_core.specs.Following.{AreLines}
use Rattle.heap_core.specs.Held.{IsSoundCore, NamesInRange}

-- No call is no line.
abbrev pub NoCallIsNoLine : Type 0
NoCallIsNoLine = (c : CoreContents) → AreLines c [] c

-- A call is a line before those of the calls that follow it.
abbrev pub CallsAreLines : Type 0
CallsAreLines = (old mid new : CoreContents) (event : Event) (reply : Reply) (lines : List Told) → IsSoundCore old → NamesInRange event → IsAct old event reply mid
    → (IsSoundCore mid → AreLines mid lines new) → AreLines old (record { event = event; reply = reply } ∷ lines) new
