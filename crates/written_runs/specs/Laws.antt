-- The laws of written runs, each a statement of its own.
use Rattle.std.specs.Prelude.{◌≡◌, ℕ, ◌≤◌, List}
use Rattle.words.specs.declared.limits.TheConstants.{MAX_PAGES}
use Rattle.heap_spec.specs.declared.event.Event.{Event}
use Rattle.heap_spec.specs.declared.reply.Reply.{Reply}
use Rattle.replayer.specs.declared.hint.Hint.{Hint}
use Rattle.replayer.specs.Laws.{SayTheSame}
use Rattle.written_runs.specs.declared.verdict.Verdict.{Verdict}
use Rattle.written_runs.specs.declared.places.Places.{Places}
use Rattle.written_runs.specs.Written.{IsWritten, IsWrittenSized}
use Rattle.written_runs.specs.Judging.{IsJudged}
use Rattle.written_runs.specs.Ranges.{HasRange}

-- Two readings of a line are the same.
pub record AreOneReading (event event' : Event) (reply reply' : Reply) (hint hint' : Hint) : Type 0 where
  pub events : event ≡ event'
  pub replies : reply ≡ reply'
  pub hints : SayTheSame hint hint'

-- a line is written of one event, its reply and a hint
abbrev pub LinesHaveOneReading : Type 0
LinesHaveOneReading = (line : List ℕ) (event event' : Event) (reply reply' : Reply) (hint hint' : Hint)
    → IsWritten line event reply hint → IsWritten line event' reply' hint' → AreOneReading event event' reply reply' hint hint'

-- Two readings of a line with numbers of words are the same.
pub record AreOneSizedReading (event event' : Event) (reply reply' : Reply) (hint hint' : Hint) (n n' : ℕ) : Type 0 where
  pub reading : AreOneReading event event' reply reply' hint hint'
  pub sizes : n ≡ n'

-- a line of a heap whose objects may lie anywhere is written of one event, its reply, a hint and a number of words
abbrev pub SizedLinesHaveOneReading : Type 0
SizedLinesHaveOneReading = (line : List ℕ) (event event' : Event) (reply reply' : Reply) (hint hint' : Hint) (n n' : ℕ)
    → IsWrittenSized line event reply hint n → IsWrittenSized line event' reply' hint' n' → AreOneSizedReading event event' reply reply' hint hint' n n'

-- of the lines of a run one verdict is true, wherever its objects may lie in a heap that has a range
abbrev pub RunsHaveOneVerdict : Type 0
RunsHaveOneVerdict = (places : Places) (pages : ℕ) → 1 ≤ pages → pages ≤ MAX_PAGES → HasRange places pages → (lines : List (List ℕ)) (verdict verdict' : Verdict)
    → IsJudged places pages lines verdict → IsJudged places pages lines verdict' → verdict ≡ verdict'
