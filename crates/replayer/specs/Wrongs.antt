-- What is wrong about the objects that a collection is said to have forgotten.
use Rattle.std.specs.Prelude.{◌≡◌, ℕ, true, List, Option}
use Rattle.heap_spec.specs.declared.event.Event.{Event}
use Rattle.heap_spec.specs.declared.event.Event.TheVariants.{Attach, Mutator, Begin, BeginPartial, Roots, Mark, Retrace, Finish, Sweep, Collect, Number}
use Rattle.heap_spec.specs.Closure.{Reached}
use Rattle.heap_spec.specs.Runs.{Start, Run, Touched, heap_after, is_marking}
use Rattle.plain_heap.specs.declared.wrongs.Wrong.{Wrong}
use Rattle.plain_heap.specs.Wrongs.{IsWrong, TellsLowest}
use Rattle.replayer.specs.declared.hint.Hint.{Hint}
use Rattle.replayer.specs.declared.hint.Hint.TheVariants.{Nothing, Place, Forgot}
use Rattle.replayer.specs.ReplayerContents.{ReplayerContents, Follows}

-- of the end of a cycle: what is reached has to stay, and what the cycle didn't touch has to go
abbrev pub IsWrongFinish : Start → Run → List ℕ → Wrong → Type 0
IsWrongFinish start run bases wrong = (is_marking start run ≡ true) × IsWrong (heap_after start run) (λ base o. Reached (heap_after start run) base) (λ base o. Touched start run o.birth → ⊥) bases wrong

-- of a full collection: what is reached has to stay, and all else has to go
abbrev pub IsWrongCollect : Start → Run → List ℕ → Wrong → Type 0
IsWrongCollect start run bases wrong = IsWrong (heap_after start run) (λ base o. Reached (heap_after start run) base) (λ base o. Reached (heap_after start run) base → ⊥) bases wrong

-- the same of the bases of a hint, if it names any
abbrev pub IsWrongHint : (List ℕ → Wrong → Type 0) → Hint → Wrong → Type 0
IsWrongHint Holds Nothing wrong = ⊥
IsWrongHint Holds (Place base) wrong = ⊥
IsWrongHint Holds (Forgot bases) wrong = Holds bases.now wrong

-- of any event that goes on with a run: only the end of a cycle and a full collection forget
abbrev pub IsWrongOf : Start → Run → Event → Hint → Wrong → Type 0
IsWrongOf start run Attach hint wrong = ⊥
IsWrongOf start run (Mutator slot call) hint wrong = ⊥
IsWrongOf start run Begin hint wrong = ⊥
IsWrongOf start run BeginPartial hint wrong = ⊥
IsWrongOf start run Roots hint wrong = ⊥
IsWrongOf start run (Mark n) hint wrong = ⊥
IsWrongOf start run Retrace hint wrong = ⊥
IsWrongOf start run Finish hint wrong = IsWrongHint (IsWrongFinish start run) hint wrong
IsWrongOf start run Sweep hint wrong = ⊥
IsWrongOf start run Collect hint wrong = IsWrongHint (IsWrongCollect start run) hint wrong
IsWrongOf start run Number hint wrong = ⊥

-- of each run that the replayer follows it is the lowest of what is wrong about an event and its hint, or nothing is
abbrev pub TellsWrong : ReplayerContents → Event → Hint → Option Wrong → Type 0
TellsWrong r event hint wrong = (start : Start) (run : Run) → Follows r start run → TellsLowest (IsWrongOf start run event hint) wrong
