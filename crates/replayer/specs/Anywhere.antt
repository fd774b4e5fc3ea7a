-- Runs of heaps that place objects anywhere, and when a replayer says yes to a line of one.
use Rattle.std.specs.Prelude.{◌≡◌, ◌<◌, ℕ, Bool}
use Rattle.words.specs.declared.class.Kind.{Kind}
use Rattle.heap_spec.specs.declared.call.Call.TheVariants.{Alloc}
use Rattle.heap_spec.specs.declared.event.Event.{Event}
use Rattle.heap_spec.specs.declared.event.Event.TheVariants.{Mutator, Finish, Collect}
use Rattle.heap_spec.specs.declared.reply.Reply.{Reply}
use Rattle.heap_spec.specs.declared.reply.Reply.TheVariants.{Done, Count}
use Rattle.heap_spec.specs.Layout.{word_end}
use Rattle.heap_spec.specs.Heap.{Heap}
use Rattle.heap_spec.specs.Runs.{Start, Run, heap_after, goes_on}
use Rattle.heap_spec.specs.Transcripts.{LineOf}
use Rattle.plain_heap.specs.Anywhere.{Requests}
use Rattle.plain_heap.specs.Answering.{IsBornOf}
use Rattle.replayer.specs.declared.hint.Hint.{Hint}
use Rattle.replayer.specs.declared.hint.Hint.TheVariants.{Nothing, Place, Forgot}
use Rattle.replayer.specs.Expecting.{MayBeOpen}
use Rattle.replayer.specs.ReplayerContents.{ReplayerContents, Follows}
use Rattle.replayer.specs.Replays.{NamesBases, MayNameBases}

-- the event is no request for an object
abbrev pub IsNoRequest : Event → Type 0
IsNoRequest event = (slot into words : ℕ) (kind : Kind) → event ≡ Mutator slot (Alloc into words kind) → ⊥

-- How a run goes on by one command with its reply, where objects may lie anywhere in a heap that begins at the origin: by what a
-- request may answer there, and by any other command as ever.
pub data LineAnywhere (origin : ℕ) (start : Start) (run : Run) : Event → Reply → Run → Type 0 where
  requested : {slot into words : ℕ} {kind : Kind} {reply : Reply} {s' : Heap} → Requests (heap_after start run) origin slot into words kind reply s'
      → LineAnywhere origin start run (Mutator slot (Alloc into words kind)) reply (goes_on run (Mutator slot (Alloc into words kind)) reply s')
  other : {event : Event} {reply : Reply} {next : Run} → IsNoRequest event → LineOf start run event reply next → LineAnywhere origin start run event reply next

-- the hint is the base of the object that was born, and this has so many words
abbrev pub NamesObject : Hint → ℕ → Heap → Heap → Type 0
NamesObject Nothing n s s' = ⊥
NamesObject (Place base) n s s' = IsBornOf s base n s'
NamesObject (Forgot bases) n s s' = ⊥

-- The event with its reply goes on with the run, where objects may lie anywhere, and the hint is right: with a number of words
-- it names the place of a granted request, and of a collection it says what it says of any run. Births stay below 2 ^ 64.
pub record IsReplayAnywhere (origin : ℕ) (hint : Hint) (n : ℕ) (start : Start) (run : Run) (event : Event) (reply : Reply) (next : Run) : Type 0 where
  pub line : LineAnywhere origin start run event reply next
  pub place : (slot into words : ℕ) (kind : Kind) → event ≡ Mutator slot (Alloc into words kind) → reply ≡ Done → NamesObject hint n (heap_after start run) (heap_after start next)
  pub finished : (k : ℕ) → event ≡ Finish → reply ≡ Count k → NamesBases hint k (heap_after start run) (heap_after start next)
  pub collected : (k : ℕ) → event ≡ Collect → reply ≡ Count k → MayNameBases hint k (heap_after start run) (heap_after start next)
  pub births : (heap_after start next).births < word_end

-- From each run that the replayer followed it is a replay in its own heap, to one that it follows.
abbrev pub IsReplayedAnywhere : ReplayerContents → Event → Reply → Hint → ℕ → ReplayerContents → Type 0
IsReplayedAnywhere old event reply hint n new = (start : Start) (run : Run) → Follows old start run → (next : Run) × IsReplayAnywhere old.heap.origin hint n start run event reply next × Follows new start next

-- From no run that the replayer follows it is a replay in its own heap.
abbrev pub IsNoReplayAnywhere : ReplayerContents → Event → Reply → Hint → ℕ → Type 0
IsNoReplayAnywhere r event reply hint n = (start : Start) (run next : Run) → Follows r start run → IsReplayAnywhere r.heap.origin hint n start run event reply next → ⊥

-- The run goes on by the event with this reply, and with no other, where objects may lie anywhere.
pub record IsTheReplyAnywhere (origin : ℕ) (start : Start) (run : Run) (event : Event) (reply : Reply) : Type 0 where
  pub may : (next : Run) × LineAnywhere origin start run event reply next
  pub only : (other : Reply) (next : Run) → (reply ≡ other → ⊥) → LineAnywhere origin start run event other next → ⊥

-- Each run that the replayer follows goes on by the event with this reply, and with no other.
abbrev pub ExpectsAnywhere : ReplayerContents → Event → Reply → Type 0
ExpectsAnywhere r event reply = (start : Start) (run : Run) → Follows r start run → IsTheReplyAnywhere r.heap.origin start run event reply

-- The reply to the event may be open where objects may lie anywhere: it is that of a request, or may be open as ever.
abbrev pub MayBeOpenAnywhere : Bool → Event → Type 0
MayBeOpenAnywhere marking event = IsNoRequest event → MayBeOpen marking event
