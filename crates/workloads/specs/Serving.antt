-- What running a workload answers, from the bytes of its lines to the bytes of its replies.
use Rattle.std.specs.Prelude.{◌≡◌, ℕ, ◌++◌, Option, Some, List, [], All, Result, Ok, Err, take, ⊤}
use Rattle.std.specs.Io.KnownBytes.{Appends}
use Rattle.scripts.specs.declared.errors.ScriptError.{ScriptError}
use Rattle.scripts.specs.declared.errors.ScriptError.TheVariants.{BadLine, Read, Write, Memory}
use Rattle.scripts.specs.Lines.{IsShort, lines_of, whole_lines_of}
use Rattle.workloads.specs.Workloads.{ActorLines, AreWorkload, BreaksAt}
use Rattle.workloads.specs.Reading.{BreakNoRule}
use Rattle.workloads.specs.Printing.{ActorReplies, all_text}
use Rattle.workloads.specs.OneHistory.{HaveOneHistory}

-- a beginning of a text
pub record BeginsText (text written : List ℕ) : Type 0 where
  pub bytes : ℕ
  pub begins : written ≡ take bytes text

-- The text is of replies that one history explains, to the lines of the input, which are a workload.
pub record IsOutcome (pages : ℕ) (input text : List ℕ) : Type 0 where
  pub lists : ActorLines
  pub replies : ActorReplies
  pub are : AreWorkload (lines_of input) lists
  pub one : HaveOneHistory pages lists replies
  pub text_is : text ≡ all_text pages replies

-- What each answer says, for an input of which these bytes were read and those are left, and for what was written.
abbrev pub IsServedAs : ℕ → List ℕ → List ℕ → List ℕ → Result ⊤ ScriptError → Type 0
-- all of an outcome
IsServedAs pages read left written (Ok done) = IsOutcome pages read written × (left ≡ [])
-- the first line that breaks a rule, before anything is run
IsServedAs pages read left written (Err (BadLine n)) = BreaksAt (lines_of (read ++ left)) n × (written ≡ [])
-- a read fault, before anything is run
IsServedAs pages read left written (Err Read) = BreakNoRule (whole_lines_of read) × All IsShort (lines_of read) × (written ≡ [])
-- a beginning of an outcome
IsServedAs pages read left written (Err Write) = (text : List ℕ) × IsOutcome pages read text × BeginsText text written × (left ≡ [])
-- memory was refused
IsServedAs pages read left written (Err Memory) = written ≡ []

-- A run of a workload whose reader tells that its bytes are the input: what was read and what is left are the input, and what was
-- written is what the answer says.
pub record ServesWorkload (pages : ℕ) (input : List ℕ) (reader : Option (List ℕ)) (old new : Option (List ℕ)) (result : Result ⊤ ScriptError) : Type 0 where
  pub read : List ℕ
  pub left : List ℕ
  pub written : List ℕ
  pub is_input : input ≡ read ++ left
  pub is_left : reader ≡ Some left
  pub is_written : Appends old new written
  pub answer : IsServedAs pages read left written result
