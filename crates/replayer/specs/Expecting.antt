-- Which reply a heap gives to an event.
use Rattle.std.specs.Prelude.{◌≡◌, Bool, true}
use Rattle.heap_spec.specs.declared.event.Event.{Event}
use Rattle.heap_spec.specs.declared.event.Event.TheVariants.{Attach, Mutator, Begin, BeginPartial, Roots, Mark, Retrace, Finish, Sweep, Collect, Number}
use Rattle.heap_spec.specs.declared.reply.Reply.{Reply}
use Rattle.heap_spec.specs.Runs.{Start, Run}
use Rattle.heap_spec.specs.Transcripts.{LineOf}
use Rattle.replayer.specs.ReplayerContents.{ReplayerContents, Follows}

-- The run goes on by the event with this reply, and with no other.
pub record IsTheReply (start : Start) (run : Run) (event : Event) (reply : Reply) : Type 0 where
  pub may : (next : Run) × LineOf start run event reply next
  pub only : (other : Reply) (next : Run) → (reply ≡ other → ⊥) → LineOf start run event other next → ⊥

-- Each run that the replayer follows goes on by the event with this reply, and with no other.
abbrev pub Expects : ReplayerContents → Event → Reply → Type 0
Expects r event reply = (start : Start) (run : Run) → Follows r start run → IsTheReply start run event reply

-- The events whose reply may be open: the collector's small steps that answer a number, and the end of a cycle that is marking.
abbrev pub MayBeOpen : Bool → Event → Type 0
MayBeOpen marking Attach = ⊥
MayBeOpen marking (Mutator slot call) = ⊥
MayBeOpen marking Begin = ⊥
MayBeOpen marking BeginPartial = ⊥
MayBeOpen marking Roots = ⊥
MayBeOpen marking (Mark n) = Unit {0}
MayBeOpen marking Retrace = Unit {0}
MayBeOpen marking Finish = marking ≡ true
MayBeOpen marking Sweep = Unit {0}
MayBeOpen marking Collect = ⊥
MayBeOpen marking Number = ⊥
