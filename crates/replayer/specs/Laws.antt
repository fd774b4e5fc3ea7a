-- The law of replays, a statement of its own.
use Rattle.std.specs.Prelude.{◌≡◌}
use Rattle.heap_spec.specs.declared.event.Event.{Event}
use Rattle.heap_spec.specs.declared.reply.Reply.{Reply}
use Rattle.heap_spec.specs.Ranges.{InRange}
use Rattle.heap_spec.specs.Runs.{Start, Run, heap_after}
use Rattle.heap_spec.specs.Sound.{IsSound}
use Rattle.replayer.specs.declared.hint.Hint.{Hint}
use Rattle.replayer.specs.declared.hint.Hint.TheVariants.{Nothing, Place, Forgot}
use Rattle.replayer.specs.Replays.{IsReplay}

-- two hints say the same
abbrev pub SayTheSame : Hint → Hint → Type 0
SayTheSame Nothing Nothing = Unit {0}
SayTheSame Nothing (Place base) = ⊥
SayTheSame Nothing (Forgot bases) = ⊥
SayTheSame (Place base) Nothing = ⊥
SayTheSame (Place base) (Place other) = base ≡ other
SayTheSame (Place base) (Forgot bases) = ⊥
SayTheSame (Forgot bases) Nothing = ⊥
SayTheSame (Forgot bases) (Place base) = ⊥
SayTheSame (Forgot bases) (Forgot others) = bases.now ≡ others.now

-- Two runs after one are the same, and lead to a sound heap.
pub record AreOneNext (start : Start) (next next' : Run) : Type 0 where
  pub same : next ≡ next'
  pub sound : IsSound (heap_after start next)

-- from a run that leads to a sound heap, an event with its reply and what a hint says has one next run
abbrev pub ReplaysHaveOneNext : Type 0
ReplaysHaveOneNext = (start : Start) (run : Run) → IsSound (heap_after start run) → (event : Event) → InRange event
    → (reply : Reply) (hint hint' : Hint) → SayTheSame hint hint' → (next next' : Run)
    → IsReplay hint start run event reply next → IsReplay hint' start run event reply next' → AreOneNext start next next'
