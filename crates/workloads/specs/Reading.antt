-- What reading a workload answers.
use Rattle.std.specs.Prelude.{◌≡◌, ℕ, ◌++◌, Option, Some, List, [], All, Result, Ok, Err}
use Rattle.scripts.specs.declared.errors.ScriptError.{ScriptError}
use Rattle.scripts.specs.declared.errors.ScriptError.TheVariants.{BadLine, Read, Write, Memory}
use Rattle.scripts.specs.Lines.{IsShort, lines_of, whole_lines_of}
use Rattle.workloads.specs.Workloads.{ActorLines, AreWorkload, BreaksAt}

-- the lines break no rule
abbrev pub BreakNoRule : List (List ℕ) → Type 0
BreakNoRule lines = (lists : ActorLines) × AreWorkload lines lists

-- What each answer says, for an input of which these bytes were read and those are left.
abbrev pub IsReadAs : List ℕ → List ℕ → Result ActorLines ScriptError → Type 0
-- all lines of the input, which was read to its end, are the workload's
IsReadAs read left (Ok lists) = AreWorkload (lines_of read) lists × (left ≡ [])
-- the first line that breaks a rule
IsReadAs read left (Err (BadLine n)) = BreaksAt (lines_of (read ++ left)) n
-- the complete lines that were read before the fault break no rule, and no line of what was read is too long
IsReadAs read left (Err Read) = BreakNoRule (whole_lines_of read) × All IsShort (lines_of read)
-- nothing is written
IsReadAs read left (Err Write) = ⊥
-- memory was refused, at whichever line
IsReadAs read left (Err Memory) = Unit {0}

-- A reading of a reader that tells that its bytes are the input: what was read and what is left are the input.
pub record ReadsWorkload (input : List ℕ) (reader : Option (List ℕ)) (result : Result ActorLines ScriptError) : Type 0 where
  pub read : List ℕ
  pub left : List ℕ
  pub is_input : input ≡ read ++ left
  pub is_left : reader ≡ Some left
  pub answer : IsReadAs read left result
