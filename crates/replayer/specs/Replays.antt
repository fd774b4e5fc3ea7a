-- When a replayer says yes.
use Rattle.std.specs.Prelude.{◌≡◌, ◌<◌, ℕ}
use Rattle.words.specs.declared.class.Kind.{Kind}
use Rattle.words.specs.declared.limits.TheConstants.{FIRST_ADDRESS}
use Rattle.heap_spec.specs.declared.call.Call.{Call}
use Rattle.heap_spec.specs.declared.call.Call.TheVariants.{Alloc}
use Rattle.heap_spec.specs.declared.event.Event.{Event}
use Rattle.heap_spec.specs.declared.event.Event.TheVariants.{Mutator, Finish, Collect}
use Rattle.heap_spec.specs.declared.reply.Reply.{Reply}
use Rattle.heap_spec.specs.declared.reply.Reply.TheVariants.{Done, Count}
use Rattle.heap_spec.specs.Layout.{word_end}
use Rattle.heap_spec.specs.Heap.{Heap}
use Rattle.heap_spec.specs.Cycles.{TakesOut}
use Rattle.heap_spec.specs.Runs.{Start, Run, heap_after}
use Rattle.heap_spec.specs.Transcripts.{LineOf}
use Rattle.plain_heap.specs.Answering.{IsBornAt}
use Rattle.replayer.specs.declared.hint.Hint.{Hint}
use Rattle.replayer.specs.declared.hint.Hint.TheVariants.{Nothing, Place, Forgot}
use Rattle.replayer.specs.ReplayerContents.{ReplayerContents, Follows}

-- the call is a granted request
abbrev pub IsGrant : Call → Reply → Type 0
IsGrant call reply = (into : ℕ) × (words : ℕ) × (kind : Kind) × (call ≡ Alloc into words kind) × (reply ≡ Done)

-- the hint is the base of the object that was born
abbrev pub NamesPlace : Hint → Heap → Heap → Type 0
NamesPlace Nothing s s' = ⊥
NamesPlace (Place base) s s' = IsBornAt s base s'
NamesPlace (Forgot bases) s s' = ⊥

-- the hint is the bases of the objects that are gone, so many
abbrev pub NamesBases : Hint → ℕ → Heap → Heap → Type 0
NamesBases Nothing n s s' = ⊥
NamesBases (Place base) n s s' = ⊥
NamesBases (Forgot bases) n s s' = TakesOut s bases.now (Count n) s'

-- A full collection leaves nothing open, so of one the hint may say nothing.
abbrev pub MayNameBases : Hint → ℕ → Heap → Heap → Type 0
MayNameBases Nothing n s s' = Unit {0}
MayNameBases (Place base) n s s' = ⊥
MayNameBases (Forgot bases) n s s' = TakesOut s bases.now (Count n) s'

-- The event with its reply is a line of a legal transcript, and the hint is right: it
-- names the place of a granted request, and what the end of a cycle forgot, and may name what a full collection forgot.
-- Births stay below 2 ^ 64.
pub record IsReplay (hint : Hint) (start : Start) (run : Run) (event : Event) (reply : Reply) (next : Run) : Type 0 where
  pub line : LineOf start run event reply next
  pub place : (slot into words : ℕ) (kind : Kind) → event ≡ Mutator slot (Alloc into words kind) → reply ≡ Done → NamesPlace hint (heap_after start run) (heap_after start next)
  pub finished : (n : ℕ) → event ≡ Finish → reply ≡ Count n → NamesBases hint n (heap_after start run) (heap_after start next)
  pub collected : (n : ℕ) → event ≡ Collect → reply ≡ Count n → MayNameBases hint n (heap_after start run) (heap_after start next)
  pub births : (heap_after start next).births < word_end

-- From each run that the replayer followed it is a replay, to one that it follows.
abbrev pub IsReplayed : ReplayerContents → Event → Reply → Hint → ReplayerContents → Type 0
IsReplayed old event reply hint new = (start : Start) (run : Run) → Follows old start run → (next : Run) × IsReplay hint start run event reply next × Follows new start next

-- a granted request is judged in a heap that begins where those with size classes do
abbrev pub JudgesGrants : ReplayerContents → Event → Reply → Type 0
JudgesGrants r event reply = (slot into words : ℕ) (kind : Kind) → event ≡ Mutator slot (Alloc into words kind) → reply ≡ Done → r.heap.origin ≡ FIRST_ADDRESS

-- From no run that the replayer follows it is a replay.
abbrev pub IsNoReplay : ReplayerContents → Event → Reply → Hint → Type 0
IsNoReplay r event reply hint = (start : Start) (run next : Run) → Follows r start run → IsReplay hint start run event reply next → ⊥
