-- The statuses of the program, and what it says of a fault.
use Rattle.std.specs.Prelude.{◌≡◌, ℕ, ◌+◌, ◌⊎◌, Option, List, [], ◌∷◌, ◌++◌, take, codes, decimal, Result, Ok, Err, ⊤}
use Rattle.std.specs.Io.KnownBytes.{Appends}
use Rattle.scripts.specs.declared.errors.ScriptError.{ScriptError}
use Rattle.scripts.specs.declared.errors.ScriptError.TheVariants.{BadLine as LineIsBad, Read as ReadFailed, Write as WriteFailed, Memory as MemoryRefused}
use Rattle.scripts.specs.Lines.{newline}
use Rattle.programs.specs.declared.fault.Fault.{Fault}
use Rattle.programs.specs.declared.fault.Fault.TheVariants.{BadCommand, BadLine, Read, Write, WriteFile, NoRun, Memory}

-- what ends a script, or a workload, as the program's fault
abbrev pub fault_of : ScriptError → Fault
fault_of (LineIsBad n) = BadLine n
fault_of ReadFailed = Read
fault_of WriteFailed = Write
fault_of MemoryRefused = Memory

-- the status with which the program ends
abbrev pub status_of : Fault → ℕ
status_of BadCommand = 2
status_of (BadLine n) = 2
status_of Read = 1
status_of Write = 1
status_of WriteFile = 1
status_of NoRun = 1
status_of Memory = 1

-- the text on standard error, without its newline
abbrev pub fault_text : Fault → List ℕ
fault_text BadCommand = codes "bad command"
fault_text (BadLine n) = codes "bad line " ++ decimal n
fault_text Read = codes "read fault"
fault_text Write = codes "write fault"
fault_text WriteFile = codes "write fault"
fault_text NoRun = codes "no legal run"
fault_text Memory = codes "no memory"

-- the line on standard error
abbrev pub fault_line : Fault → List ℕ
fault_line fault = fault_text fault ++ newline ∷ []

-- A fault ends the program with its status. Its line is told, or a front of it where the writer of errors failed. After that nothing is
-- tried again.
pub record EndsBy (fault : Fault) (status : ℕ) (old new : Option (List ℕ)) (faults faults' : ℕ) : Type 0 where
  pub status_is : status ≡ status_of fault
  pub front : (n : ℕ) × Appends old new (take n (fault_line fault))
  pub whole : faults' ≡ faults → Appends old new (fault_line fault)
  pub once : (faults' ≡ faults) ⊎ (faults' ≡ faults + 1)

-- How the program ends, by what its command answered: with status 0 and no word of a fault, or by a fault.
abbrev pub Ends : Result ⊤ Fault → ℕ → Option (List ℕ) → Option (List ℕ) → ℕ → ℕ → Type 0
Ends (Ok done) status old new faults faults' = (status ≡ 0) × (new ≡ old) × (faults' ≡ faults)
Ends (Err fault) status old new faults faults' = EndsBy fault status old new faults faults'

-- memory was refused, or a write was
abbrev pub IsRefusal : Fault → Type 0
IsRefusal fault = (fault ≡ Memory) ⊎ (fault ≡ Write)
