-- What is written of a run that was written down.
use Rattle.std.specs.Prelude.{◌≡◌, ℕ, ◌+◌, Option, Some, List, [], ◌∷◌, ◌++◌, codes, false, length, slice_get, take, String}
use Rattle.std.specs.declared.alloc.Global.{Global}
use Rattle.std.specs.Io.KnownBytes.{Appends}
use Rattle.scripts.specs.Turns.{text_of}
use Rattle.trace_lines.specs.Records.{head_text}
use Rattle.written_runs.specs.declared.places.Places.TheVariants.{Classes}
use Rattle.written_runs.specs.declared.verdict.Judgement.{Judgement}
use Rattle.written_runs.specs.declared.verdict.Verdict.{Verdict}
use Rattle.written_runs.specs.declared.verdict.Verdict.TheVariants.{Legal, NoLines, Bad, Breaks}
use Rattle.plain_heap.specs.declared.wrongs.Wrong.{Wrong}
use Rattle.written_runs.specs.Judging.{IsBlamed, IsExplained, IsJudged}
use Rattle.written_runs.specs.Told.{told_lines}
use Rattle.tracing.specs.Telling.{TracerContents, IsNewTracer}
use Rattle.draw.specs.RunDrawn.{IsRunDrawn, AreSentences, IsRefusalDrawn}

-- Lines are drawn one after another, each by the tracer as the one before left it.
pub data AreDrawn : TracerContents → List (List ℕ) → TracerContents → List (List ℕ) → Type 0 where
  stays : {t : TracerContents} → AreDrawn t [] t []
  goes_on : {t mid last : TracerContents} {line text : List ℕ} {lines texts : List (List ℕ)}
      → IsRunDrawn t line mid text → AreDrawn mid lines last texts → AreDrawn t (line ∷ lines) last (text ∷ texts)

-- The lines are drawn, and their records are written, each with its newline.
pub record PutsRecords (old : TracerContents) (lines : List (List ℕ)) (new : TracerContents) (wrote writes : Option (List ℕ)) : Type 0 where
  pub records : List (List ℕ)
  pub drawn : AreDrawn old lines new records
  pub written : Appends wrote writes (text_of records)

-- Of a new heap of so many pages the records of what these lines tell.
pub record AreRecords (pages : ℕ) (lines records : List (List ℕ)) : Type 0 where
  pub first : TracerContents
  pub is_new : IsNewTracer pages first
  pub last : TracerContents
  pub drawn : AreDrawn first (told_lines lines) last records

-- the first line of a trace of so many records
abbrev pub first_text : ℕ → ℕ → List ℕ
first_text pages count = head_text (codes "a run") pages count false

-- The trace of lines that are all legal: its first line, and a record of each line that is told.
pub record IsWholeTrace (pages : ℕ) (lines : List (List ℕ)) (count : ℕ) (trace : List ℕ) : Type 0 where
  pub records : List (List ℕ)
  pub are : AreRecords pages lines records
  pub whole : trace ≡ text_of (first_text pages count ∷ records)

-- The trace of lines of which that with this number isn't legal: its first line, a record of each line that is told before that one, and
-- as the last one that of the line itself, with what is said of it.
pub record IsCutTrace (pages : ℕ) (lines : List (List ℕ)) (number : ℕ) (says : List (String Global)) (wrong : Option Wrong) (trace : List ℕ) : Type 0 where
  pub before : ℕ
  pub numbered : number ≡ before + 1
  pub line : List ℕ
  pub is_line : slice_get lines before ≡ Some line
  pub records : List (List ℕ)
  pub are : AreRecords pages (take before lines) records
  pub refusal : List ℕ
  pub refused : IsRefusalDrawn number line says wrong refusal
  pub whole : trace ≡ text_of (first_text pages (length records + 1) ∷ (records ++ refusal ∷ []))

-- the trace of legal lines is written
abbrev pub PutsWholeTrace : ℕ → List (List ℕ) → ℕ → Option (List ℕ) → Option (List ℕ) → Type 0
PutsWholeTrace pages lines count wrote writes = (trace : List ℕ) × IsWholeTrace pages lines count trace × Appends wrote writes trace

-- that of lines of which one isn't legal is
abbrev pub PutsCutTrace : ℕ → List (List ℕ) → ℕ → List (String Global) → Option Wrong → Option (List ℕ) → Option (List ℕ) → Type 0
PutsCutTrace pages lines number says wrong wrote writes = (trace : List ℕ) × IsCutTrace pages lines number says wrong trace × Appends wrote writes trace

-- The same with what the checker says of the line.
pub record PutsBrokenTrace (pages : ℕ) (lines : List (List ℕ)) (number : ℕ) (j : Judgement) (wrote writes : Option (List ℕ)) : Type 0 where
  pub says : List (String Global)
  pub sentences : AreSentences j.expected j.wrong says
  pub puts : PutsCutTrace pages lines number says j.wrong wrote writes

-- What is written of lines of which this is said, and the status: of what is no run nothing is.
abbrev pub PutsTrace : ℕ → List (List ℕ) → Judgement → Verdict → ℕ → Option (List ℕ) → Option (List ℕ) → Type 0
PutsTrace pages lines j (Legal count) status wrote writes = PutsWholeTrace pages lines count wrote writes × (status ≡ 0)
PutsTrace pages lines j NoLines status wrote writes = Appends wrote writes [] × (status ≡ 2)
PutsTrace pages lines j (Bad number) status wrote writes = Appends wrote writes [] × (status ≡ 2)
PutsTrace pages lines j (Breaks number rule) status wrote writes = PutsBrokenTrace pages lines number j wrote writes × (status ≡ 1)

-- Lines are judged, and the trace of what they are judged is written.
pub record DrawsRun (pages : ℕ) (lines : List (List ℕ)) (status : ℕ) (wrote writes : Option (List ℕ)) : Type 0 where
  pub judgement : Judgement
  pub judged : IsJudged Classes pages lines judgement.verdict
  pub expected : IsExplained Classes pages lines judgement.verdict judgement.expected
  pub blamed : IsBlamed Classes pages lines judgement.verdict judgement.wrong judgement.keeper
  pub puts : PutsTrace pages lines judgement judgement.verdict status wrote writes
