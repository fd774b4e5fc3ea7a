-- Legal transcripts of scripts.
use Rattle.std.specs.Prelude.{◌≡◌, ℕ, ◌≤◌, Bool, true, false, List, [], ◌∷◌}
use Rattle.words.specs.declared.refusal.Refusal.TheVariants.{WrongPhase, NeedsFull}
use Rattle.heap_spec.specs.declared.event.Event.{Event}
use Rattle.heap_spec.specs.declared.event.Event.TheVariants.{Attach, Mutator, Begin, BeginPartial, Roots, Mark, Retrace, Finish, Sweep, Collect, Number}
use Rattle.heap_spec.specs.declared.reply.Reply.{Reply}
use Rattle.heap_spec.specs.declared.reply.Reply.TheVariants.{Done, Count, Refused}
use Rattle.heap_spec.specs.Heap.{Heap}
use Rattle.heap_spec.specs.Runs.{Start, Run, Told, is_marking, needs_full, count, goes_on}
use Rattle.heap_spec.specs.Histories.{Happens}

-- The phase forbids the command: a cycle begins only while none is marking, and marks and ends only while one is.
abbrev pub IsWrongPhase : Bool → Event → Type 0
IsWrongPhase marking Attach = ⊥
IsWrongPhase marking (Mutator slot call) = ⊥
IsWrongPhase marking Begin = marking ≡ true
IsWrongPhase marking BeginPartial = marking ≡ true
IsWrongPhase marking Roots = marking ≡ false
IsWrongPhase marking (Mark n) = marking ≡ false
IsWrongPhase marking Retrace = marking ≡ false
IsWrongPhase marking Finish = marking ≡ false
IsWrongPhase marking Sweep = ⊥
IsWrongPhase marking Collect = ⊥
IsWrongPhase marking Number = ⊥

-- How a run goes on by one command with its reply: by what happens, or not at all, since refused calls of the collector,
-- its small steps and its count are no events. The heap has no marker, so it leaves their replies open within these ranges.
pub data LineOf (start : Start) (run : Run) : Event → Reply → Run → Type 0 where
  happens : {event : Event} {reply : Reply} {s' : Heap} → Happens start run event reply s' → LineOf start run event reply (goes_on run event reply s')
  refused : {event : Event} → IsWrongPhase (is_marking start run) event → LineOf start run event (Refused WrongPhase) run
  needs : is_marking start run ≡ false → needs_full start run ≡ true → LineOf start run BeginPartial (Refused NeedsFull) run
  roots : is_marking start run ≡ true → LineOf start run Roots Done run
  mark : {most n : ℕ} → is_marking start run ≡ true → n ≤ most → LineOf start run (Mark most) (Count n) run
  retrace : {n : ℕ} → is_marking start run ≡ true → n ≤ 1 → LineOf start run Retrace (Count n) run
  sweep : {n : ℕ} → n ≤ 1 → LineOf start run Sweep (Count n) run
  number : LineOf start run Number (Count (count start run)) run

-- A legal transcript is commands with their replies, one after another, from one run to another.
pub data LegalTranscript (start : Start) : Run → List Told → Run → Type 0 where
  ends : {run : Run} → LegalTranscript start run [] run
  on : {run mid last : Run} {told : Told} {lines : List Told} → LineOf start run told.event told.reply mid
      → LegalTranscript start mid lines last → LegalTranscript start run (told ∷ lines) last
