-- A run of a script, line by line.
use Rattle.std.proofs.Common.{◌≡◌, ℕ, ◌+◌, List, [], length, map}
use Rattle.std.specs.Prelude.{Option, All}
use Rattle.std.specs.List.{AllZip}
use Rattle.std.specs.Io.KnownBytes.{Consumes, Appends}
use Rattle.heap_spec.specs.Runs.{Told, Run, opening_start}
use Rattle.heap_spec.specs.Transcripts.{LegalTranscript}
use Rattle.heap_core.specs.CoreContents.{CoreContents}
use Rattle.heap_core.specs.Following.{Follows}
use Rattle.scripts.specs.Cores.{AreCallsOfNew}
use Rattle.scripts.specs.Grammar.{IsLineOf}
use Rattle.scripts.specs.Reading.{IsPlainLine}
use Rattle.scripts.specs.Printing.{printed}
use Rattle.scripts.specs.Turns.{text_of}

-- Some lines were run and answered: what was read and written since the start, the transcript, and the core after it.
pub record HasRun (pages : ℕ) (core : CoreContents) (lines : List (List ℕ)) (out : List ℕ) : Type 0 where
  pub told : List Told
  pub last : Run
  pub plain : All IsPlainLine lines
  pub commands : AllZip IsLineOf lines (map (λ (t : Told). t.event) told)
  pub legal : LegalTranscript (opening_start pages) [] told last
  pub calls : AreCallsOfNew pages told core
  pub prints : out ≡ printed pages told
  pub follows : Follows core (opening_start pages) last

-- The lines before this number were run, since the start.
pub record IsUpTo (pages number : ℕ) (core : CoreContents) (input left : Option (List ℕ)) (held written : Option (List ℕ)) : Type 0 where
  pub lines : List (List ℕ)
  pub out : List ℕ
  pub run : HasRun pages core lines out
  pub count : length lines + 1 ≡ number
  pub read : Consumes input left (text_of lines)
  pub wrote : Appends held written out
