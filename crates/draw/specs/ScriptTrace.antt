-- What is written of a script.
use Rattle.std.specs.Prelude.{◌≡◌, ◌⊎◌, ℕ, ◌+◌, Option, Some, List, [], ◌∷◌, codes, true, length, slice_get, take, Result, Ok, Err, ⊤}
use Rattle.std.specs.Io.KnownBytes.{Appends}
use Rattle.heap_core.specs.Opening.{IsNew}
use Rattle.recording.specs.RecorderContents.{RecorderContents}
use Rattle.scripts.specs.Turns.{text_of}
use Rattle.programs.specs.declared.fault.Fault.{Fault}
use Rattle.trace_lines.specs.Records.{head_text}
use Rattle.tracing.specs.Telling.{TracerContents, IsNewTracer}
use Rattle.draw.specs.Drawn.{IsDrawn, NamesBadLine}
use Rattle.programs.specs.Faults.{IsRefusal}

-- Lines of a script are drawn one after another, each by the heap and the tracer as the one before left them.
pub data AreCommandsDrawn (pages : ℕ) : RecorderContents → TracerContents → List (List ℕ) → RecorderContents → TracerContents → List (List ℕ) → Type 0 where
  stays : {heap : RecorderContents} {tracer : TracerContents} → AreCommandsDrawn pages heap tracer [] heap tracer []
  goes_on : {heap mid last : RecorderContents} {tracer between behind : TracerContents} {line text : List ℕ} {lines texts : List (List ℕ)}
      → IsDrawn pages heap tracer line mid between text → AreCommandsDrawn pages mid between lines last behind texts
      → AreCommandsDrawn pages heap tracer (line ∷ lines) last behind (text ∷ texts)

-- The lines are drawn, and their records are written, each with its newline.
pub record PutsCommands (pages : ℕ) (heap : RecorderContents) (tracer : TracerContents) (lines : List (List ℕ)) (heap' : RecorderContents) (tracer' : TracerContents) (wrote writes : Option (List ℕ)) : Type 0 where
  pub records : List (List ℕ)
  pub drawn : AreCommandsDrawn pages heap tracer lines heap' tracer' records
  pub written : Appends wrote writes (text_of records)

-- Why the record of the line of this number isn't written: the line is bad, and nothing is written; or memory or a write is refused.
abbrev pub IsNotPut : ℕ → List ℕ → Option (List ℕ) → Option (List ℕ) → Fault → Type 0
IsNotPut number line wrote writes fault = (NamesBadLine number line fault × (writes ≡ wrote)) ⊎ IsRefusal fault

-- A line is bad, which the fault names by its number, counted from 1, and the records of the lines before it are written.
pub record StopsAtBadLine (pages : ℕ) (heap : RecorderContents) (tracer : TracerContents) (lines : List (List ℕ)) (wrote writes : Option (List ℕ)) (fault : Fault) : Type 0 where
  pub before : ℕ
  pub line : List ℕ
  pub is_line : slice_get lines before ≡ Some line
  pub names : NamesBadLine (before + 1) line fault
  pub last : RecorderContents
  pub behind : TracerContents
  pub puts : PutsCommands pages heap tracer (take before lines) last behind wrote writes

-- the first line of a trace of so many records of a script
abbrev pub script_head : ℕ → ℕ → List ℕ
script_head pages count = head_text (codes "a script") pages count true

-- The first line of a trace of so many records is written, and behind it a record of each of these lines, in their order, of which a new heap
-- of so many pages was asked each.
pub record PutsScriptTrace (pages count : ℕ) (lines : List (List ℕ)) (wrote writes : Option (List ℕ)) : Type 0 where
  pub heap : RecorderContents
  pub is_new : IsNew pages heap.core
  pub knows_none : heap.bases ≡ []
  pub tracer : TracerContents
  pub is_new_tracer : IsNewTracer pages tracer
  pub last : RecorderContents
  pub behind : TracerContents
  pub records : List (List ℕ)
  pub drawn : AreCommandsDrawn pages heap tracer lines last behind records
  pub written : Appends wrote writes (text_of (script_head pages count ∷ records))

-- A line is bad, which the fault names by its number, counted from 1. The records of the lines before it are written, behind a first line that
-- counts all lines.
pub record DrawsToBadLine (pages : ℕ) (lines : List (List ℕ)) (wrote writes : Option (List ℕ)) (fault : Fault) : Type 0 where
  pub before : ℕ
  pub line : List ℕ
  pub is_line : slice_get lines before ≡ Some line
  pub names : NamesBadLine (before + 1) line fault
  pub puts : PutsScriptTrace pages (length lines) (take before lines) wrote writes

-- What is written of a script of these lines, by the answer: a record of each line, or of each before the first bad one; or memory or a write
-- was refused.
abbrev pub DrawsScript : ℕ → List (List ℕ) → Option (List ℕ) → Option (List ℕ) → Result ⊤ Fault → Type 0
DrawsScript pages lines wrote writes (Ok done) = PutsScriptTrace pages (length lines) lines wrote writes
DrawsScript pages lines wrote writes (Err fault) = DrawsToBadLine pages lines wrote writes fault ⊎ IsRefusal fault
