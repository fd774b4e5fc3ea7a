-- What is noted beside the reply to an event.
use Rattle.std.specs.Prelude.{◌≡◌, ◌<◌, ◌+◌, ◌++◌, ◌∷◌, [], ℕ, List, All, Contains, nat_eq, Result, Ok}
use Rattle.std.specs.Borrow.{Bor}
use Rattle.std.specs.List.{IsDistinct}
use Rattle.words.specs.declared.refusal.Refusal.{Refusal}
use Rattle.heap_spec.specs.declared.call.Call.{Call}
use Rattle.heap_spec.specs.declared.call.Call.TheVariants.{Alloc, Free, Get}
use Rattle.heap_spec.specs.declared.event.Event.{Event}
use Rattle.heap_spec.specs.declared.event.Event.TheVariants.{Attach, Mutator, Begin, BeginPartial, Roots, Mark, Retrace, Finish, Sweep, Collect, Number}
use Rattle.heap_spec.specs.declared.reply.Reply.{Reply}
use Rattle.heap_spec.specs.declared.reply.Reply.TheVariants.{Count}
use Rattle.heap_spec.specs.Layout.{word_end}
use Rattle.heap_spec.specs.Heap.{Heap, Object, HasObject}
use Rattle.heap_spec.specs.Cycles.{TakesOut}
use Rattle.heap_spec.specs.Ranges.{IsRegister}
use Rattle.heap_spec.specs.Replies.{word_reply}
use Rattle.heap_spec.specs.Runs.{Start, Run, heap_after}
use Rattle.heap_spec.specs.Sound.{IsSound}
use Rattle.heap_spec.specs.Transcripts.{LineOf}
use Rattle.heap_core.specs.CoreContents.{CoreContents}
use Rattle.heap_core.specs.MutatorCalls.{IsCall}
use Rattle.heap_core.specs.Following.{Follows}
use Rattle.replayer.specs.declared.hint.Hint.{Hint}
use Rattle.replayer.specs.declared.hint.Hint.TheVariants.{Nothing, Place, Forgot}
use Rattle.replayer.specs.Replays.{IsReplay}
use Rattle.recording.specs.RecorderContents.{RecorderContents, Note, names_nothing, names_place, names_gone}
use Rattle.kept_bases.specs.Sorting.{SortsOut}

-- The bases are those of the heap's objects, each once, and no other.
pub record Knows (bases : List ℕ) (s : Heap) : Type 0 where
  pub distinct : IsDistinct nat_eq bases
  pub objects : All (λ b. (o : Object) × HasObject s b o) bases
  pub all : (base : ℕ) (o : Object) → HasObject s base o → Contains bases base

-- The heap is one that runs have, its objects are known, and one more can be counted.
pub record IsKnown (bases : List ℕ) (s : Heap) : Type 0 where
  pub sound : IsSound s
  pub knows : Knows bases s
  pub room : s.births + 1 < word_end

-- the hint says what is noted
abbrev pub IsHint : Note → Hint → Type 0
IsHint names_nothing hint = hint ≡ Nothing
IsHint (names_place base) hint = hint ≡ Place base
IsHint (names_gone bases) hint = (slice : Bor (List ℕ)) × (hint ≡ Forgot slice) × (slice.now ≡ bases)

-- The bases of the objects that a collection took out are noted, so many.
pub record NotesTaken (note : Note) (n : ℕ) (s s' : Heap) : Type 0 where
  pub bases : List ℕ
  pub noted : note ≡ names_gone bases
  pub takes : TakesOut s bases (Count n) s'

-- How a run goes on by an event with its reply, as it is noted: by a line of a legal transcript, to a run that the new core
-- follows. Where the objects were known it is what a yes of the checker means, with a hint that says what is noted; what a
-- full collection took out is noted, though the checker asks for no hint there; and the objects are known afterwards.
pub record GoesOn (old : RecorderContents) (event : Event) (reply : Reply) (new : RecorderContents) (start : Start) (run next : Run) : Type 0 where
  pub line : LineOf start run event reply next
  pub follows : Follows new.core start next
  pub replay : IsKnown old.bases (heap_after start run) → (hint : Hint) → IsHint new.note hint → IsReplay hint start run event reply next
  pub gone : IsKnown old.bases (heap_after start run) → (n : ℕ) → event ≡ Collect → reply ≡ Count n → NotesTaken new.note n (heap_after start run) (heap_after start next)
  pub knows : IsKnown old.bases (heap_after start run) → Knows new.bases (heap_after start next)

-- From each run that the core followed a run goes on so.
abbrev pub IsNoted : RecorderContents → Event → Reply → RecorderContents → Type 0
IsNoted old event reply new = (start : Start) (run : Run) → Follows old.core start run → (next : Run) × GoesOn old event reply new start run next

-- The word of a register, if that has one, is noted as the place, and its object is known.
pub record NotesWord (c : CoreContents) (slot into : ℕ) (old new : RecorderContents) : Type 0 where
  pub range : IsRegister into
  pub answer : Result ℕ Refusal
  pub reads : IsCall c (Mutator slot (Get into)) (word_reply answer) c
  pub place : (base : ℕ) → answer ≡ Ok base → new.note ≡ names_place base
  pub bases : (base : ℕ) → answer ≡ Ok base → new.bases ≡ old.bases ++ base ∷ []

-- Of the objects that were known those are known that the core still keeps.
abbrev pub KeepsSome : CoreContents → RecorderContents → RecorderContents → Type 0
KeepsSome c old new = (gone : List ℕ) × SortsOut c old.bases new.bases gone

-- Those that it no longer keeps are noted.
abbrev pub NotesGone : CoreContents → RecorderContents → RecorderContents → Type 0
NotesGone c old new = (gone : List ℕ) × SortsOut c old.bases new.bases gone × (new.note ≡ names_gone gone)

-- of a request its object is noted, after a free some objects are known, and after another call all
abbrev pub NotesCall : CoreContents → ℕ → Call → RecorderContents → RecorderContents → Type 0
NotesCall c slot (Alloc into words kind) old new = NotesWord c slot into old new
NotesCall c slot (Free r) old new = KeepsSome c old new
NotesCall c slot _ old new = new.bases ≡ old.bases

-- after a collection what is gone is noted, and after another event of the collector all objects are known
abbrev pub NotesEvent : CoreContents → Event → RecorderContents → RecorderContents → Type 0
NotesEvent c (Mutator slot call) old new = NotesCall c slot call old new
NotesEvent c Finish old new = NotesGone c old new
NotesEvent c Collect old new = NotesGone c old new
NotesEvent c Attach old new = new.bases ≡ old.bases
NotesEvent c Begin old new = new.bases ≡ old.bases
NotesEvent c BeginPartial old new = new.bases ≡ old.bases
NotesEvent c Roots old new = new.bases ≡ old.bases
NotesEvent c (Mark n) old new = new.bases ≡ old.bases
NotesEvent c Retrace old new = new.bases ≡ old.bases
NotesEvent c Sweep old new = new.bases ≡ old.bases
NotesEvent c Number old new = new.bases ≡ old.bases
