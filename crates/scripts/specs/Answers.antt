-- What a script's lines are answered.
use Rattle.std.specs.Prelude.{◌≡◌, ℕ, ◌-◌, ◌<◌, ◌⊎◌, Option, Some, List, [], ◌++◌, length, take, map, All, slice_get, Result, Ok, Err, ⊤}
use Rattle.std.specs.List.{AllZip}
use Rattle.std.specs.Io.KnownBytes.{Appends}
use Rattle.heap_spec.specs.Runs.{Told, Run, opening_start}
use Rattle.heap_spec.specs.Transcripts.{LegalTranscript}
use Rattle.heap_core.specs.CoreContents.{CoreContents}
use Rattle.scripts.specs.declared.limits.TheConstants.{LAST_LINE}
use Rattle.scripts.specs.declared.errors.ScriptError.{ScriptError}
use Rattle.scripts.specs.declared.errors.ScriptError.TheVariants.{BadLine, Read, Write, Memory}
use Rattle.scripts.specs.Cores.{AreCallsOfNew}
use Rattle.scripts.specs.Grammar.{IsLineOf, IsBad}
use Rattle.scripts.specs.Lines.{IsShort, lines_of, whole_lines_of}
use Rattle.scripts.specs.Printing.{printed}

-- An out answers lines, on a heap of so many pages: the lines are commands', none of them has the last number that there is,
-- and some legal transcript of these commands from the opening state, which are the calls of some new core with its replies,
-- prints as out.
pub record Answers (pages : ℕ) (lines : List (List ℕ)) (out : List ℕ) : Type 0 where
  pub told : List Told
  pub last : Run
  pub core : CoreContents
  pub commands : AllZip IsLineOf lines (map (λ (t : Told). t.event) told)
  pub few : length lines < LAST_LINE
  pub legal : LegalTranscript (opening_start pages) [] told last
  pub calls : AreCallsOfNew pages told core
  pub prints : out ≡ printed pages told

-- Line n of a text, counted from 1, is bad: it is no command's, or its number is the last that there is.
pub record HasBadLine (text : List ℕ) (n : ℕ) : Type 0 where
  pub line : List ℕ
  pub counted : 0 < n
  pub is_line : slice_get (lines_of text) (n - 1) ≡ Some line
  pub bad : IsBad line ⊎ (n ≡ LAST_LINE)

-- wrote is a beginning of an out that answers some of the first lines
pub record BeginsAnswer (pages : ℕ) (lines : List (List ℕ)) (wrote : List ℕ) : Type 0 where
  pub answered : ℕ
  pub bytes : ℕ
  pub out : List ℕ
  pub answers : Answers pages (take answered lines) out
  pub begins : wrote ≡ take bytes out

-- What stands written after each result, for an input of which these bytes are left unread.
abbrev pub IsAnswered : ℕ → List ℕ → List ℕ → Result ⊤ ScriptError → List ℕ → Type 0
-- an out that answers all lines of the input, which was read to its end
IsAnswered pages read left (Ok done) wrote = Answers pages (lines_of read) wrote × (left ≡ [])
-- an out that answers the n - 1 lines before the bad one
IsAnswered pages read left (Err (BadLine n)) wrote = Answers pages (take (n - 1) (lines_of (read ++ left))) wrote × HasBadLine (read ++ left) n
-- an out that answers the complete lines that were read, and no line of what was read is too long
IsAnswered pages read left (Err Read) wrote = Answers pages (whole_lines_of read) wrote × All IsShort (lines_of read)
-- a beginning of an out that answers some of the first lines
IsAnswered pages read left (Err Write) wrote = BeginsAnswer pages (lines_of (read ++ left)) wrote
-- nothing, and nothing was read
IsAnswered pages read left (Err Memory) wrote = (wrote ≡ []) × (read ≡ [])

-- A run over a reader that tells that its bytes are the input: what was read and what is left are the input, and what was written
-- is what the answer says.
pub record Serves (pages : ℕ) (input : List ℕ) (reader : Option (List ℕ)) (old new : Option (List ℕ)) (result : Result ⊤ ScriptError) : Type 0 where
  pub read : List ℕ
  pub left : List ℕ
  pub wrote : List ℕ
  pub is_input : input ≡ read ++ left
  pub is_left : reader ≡ Some left
  pub is_written : Appends old new wrote
  pub answered : IsAnswered pages read left result wrote

-- What stands written after each result, for a script that is at hand as bytes, where what is written stays in memory.
abbrev pub AnswersBytes : ℕ → List ℕ → List ℕ → Result ⊤ ScriptError → Type 0
-- an out that answers all lines
AnswersBytes pages script wrote (Ok done) = Answers pages (lines_of script) wrote
-- an out that answers the n - 1 lines before the bad one
AnswersBytes pages script wrote (Err (BadLine n)) = Answers pages (take (n - 1) (lines_of script)) wrote × HasBadLine script n
-- no read fails
AnswersBytes pages script wrote (Err Read) = ⊥
-- and no write
AnswersBytes pages script wrote (Err Write) = ⊥
-- nothing, or a beginning of an out that answers some of the first lines
AnswersBytes pages script wrote (Err Memory) = (wrote ≡ []) ⊎ BeginsAnswer pages (lines_of script) wrote
