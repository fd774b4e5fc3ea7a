-- Lines of the entries of a journal.
use Rattle.std.specs.Prelude.{◌≡◌, ℕ, Some, List, [], ◌∷◌, ◌++◌, take, slice_get, codes, map}
use Rattle.std.specs.Borrow.{Bor}
use Rattle.heap_spec.specs.Runs.{Start, Run, opening_start}
use Rattle.replayer.specs.declared.hint.Hint.{Hint}
use Rattle.replayer.specs.declared.hint.Hint.TheVariants as hints
use Rattle.replayer.specs.ReplayerContents.{ReplayerContents, Follows}
use Rattle.replayer.specs.Replays.{IsReplay}
use Rattle.shared.specs.declared.journal.Entry.{Entry}
use Rattle.shared.specs.declared.journal.Note.{Note}
use Rattle.shared.specs.declared.journal.Note.TheVariants.{Nothing, Place, Gone}
use Rattle.shared.specs.Journals.{made_of}
use Rattle.workloads.specs.Workloads.{ActorLines}
use Rattle.workloads.specs.Printing.{ActorReplies}
use Rattle.workloads.specs.OneHistory.{Explains}
use Rattle.workloads.specs.Stress.{line_of_command}
use Rattle.written_runs.specs.Written.{answer_of, hint_text}

-- the hint tells what was noted
abbrev pub TellsNote : Note → Hint → Type 0
TellsNote Nothing hint = hint ≡ hints.Nothing
TellsNote (Place base) hint = hint ≡ hints.Place base
TellsNote (Gone bases) hint = (slice : Bor (List ℕ)) × (hint ≡ hints.Forgot slice) × (slice.now ≡ bases.items)

-- A line is written of an entry: it has its command, its reply and what was noted, and by the three a run goes on.
pub record IsLineOfEntry (start : Start) (run : Run) (entry : Entry) (line : List ℕ) (next : Run) : Type 0 where
  pub hint : Hint
  pub noted : TellsNote entry.note hint
  pub replay : IsReplay hint start run entry.call entry.reply next
  pub line_is : line ≡ line_of_command entry.call ++ (codes " => " ++ (answer_of entry.reply ++ hint_text hint))

-- From each run that a checker followed the line leads on, to one that it then follows.
abbrev pub Writes : ReplayerContents → Entry → List ℕ → ReplayerContents → Type 0
Writes old entry line new = (start : Start) (run : Run) → Follows old start run → (next : Run) × IsLineOfEntry start run entry line next × Follows new start next

-- Lines are written of entries, each in its turn: together they lead from the start to a run.
pub data AreLines (start : Start) : List Entry → List (List ℕ) → Run → Type 0 where
  begins : AreLines start [] [] []
  goes_on : (entries : List Entry) (lines : List (List ℕ)) (entry : Entry) (line : List ℕ) (run next : Run)
      → AreLines start entries lines run → IsLineOfEntry start run entry line next
      → AreLines start (entries ++ entry ∷ []) (lines ++ line ∷ []) next

-- From the run no line of the entry leads on.
abbrev pub HasNoLine : Start → Run → Entry → Type 0
HasNoLine start run entry = (line : List ℕ) (next : Run) → IsLineOfEntry start run entry line next → ⊥

-- The entry has no line from any run that a checker followed.
abbrev pub WritesNone : ReplayerContents → Entry → Type 0
WritesNone old entry = (start : Start) (run : Run) → Follows old start run → HasNoLine start run entry

-- Entries that can't be written down: those before one of them have lines, which lead to a run from which it has none.
pub record HaveNoLines (start : Start) (entries : List Entry) : Type 0 where
  pub before : ℕ
  pub entry : Entry
  pub lines : List (List ℕ)
  pub run : Run
  pub is_entry : slice_get entries before ≡ Some entry
  pub written : AreLines start (take before entries) lines run
  pub none : HasNoLine start run entry

-- These are the lines of the one history that explains the replies: of a history of entries that does, there is a line of each.
pub record AreWritten (pages : ℕ) (lists : ActorLines) (replies : ActorReplies) (lines : List (List ℕ)) : Type 0 where
  pub entries : List Entry
  pub explains : Explains pages (map made_of entries) lists replies
  pub last : Run
  pub written : AreLines (opening_start pages) entries lines last
