-- What a request leaves of the program's input and its output, by the answer with which it ends.
use Rattle.std.specs.Prelude.{◌≡◌, ℕ, ◌+◌, ◌⊎◌, Option, Some, List, Result, Ok, Err, IfErr, ⊤}
use Rattle.scripts.specs.declared.errors.ScriptError.{ScriptError}
use Rattle.scripts.specs.declared.errors.ScriptError.TheVariants.{BadLine as LineIsBad, Read as ReadFailed, Write as WriteFailed, Memory as MemoryRefused}
use Rattle.scripts.specs.Answers.{Serves}
use Rattle.workloads.specs.Serving.{ServesWorkload}
use Rattle.workloads.specs.Stress.{stress_text}
use Rattle.workloads.specs.Writing.{IsWrittenAs}
use Rattle.programs.specs.declared.fault.Fault.{Fault}
use Rattle.programs.specs.declared.fault.Fault.TheVariants.{BadCommand, BadLine, Read, Write, WriteFile, NoRun, Memory}
use Rattle.programs.specs.Faults.{fault_of, Ends}
use Rattle.command_line.specs.declared.request.Request.{Request}
use Rattle.command_line.specs.declared.request.Request.TheVariants.{Run, RunFile, Threads, Record, Stress}

-- the answer of a script, or of a workload, as a command's
abbrev pub as_fault : Result ⊤ ScriptError → Result ⊤ Fault
as_fault (Ok done) = Ok done
as_fault (Err error) = Err (fault_of error)

-- the command's answer is that of the script, or of the workload
abbrev pub IsSame : Result ⊤ ScriptError → Result ⊤ Fault → Type 0
IsSame ended answer = answer ≡ as_fault ended

-- The command's answer, by that of a workload whose history is written down besides: the checker is asked before anything is written, and
-- the file comes behind all replies.
abbrev pub IsSameOrUnrecorded : Result ⊤ ScriptError → Result ⊤ Fault → Type 0
IsSameOrUnrecorded (Ok done) answer = IfErr answer (λ fault. (fault ≡ WriteFile) ⊎ (fault ≡ Memory))
IsSameOrUnrecorded (Err (LineIsBad n)) answer = answer ≡ Err (BadLine n)
IsSameOrUnrecorded (Err ReadFailed) answer = answer ≡ Err Read
IsSameOrUnrecorded (Err WriteFailed) answer = answer ≡ Err Write
IsSameOrUnrecorded (Err MemoryRefused) answer = (answer ≡ Err NoRun) ⊎ (answer ≡ Err Memory)

-- how many writes of the output failed: the one by which the command ends
abbrev pub write_faults : Result ⊤ Fault → ℕ
write_faults (Ok done) = 0
write_faults (Err BadCommand) = 0
write_faults (Err (BadLine n)) = 0
write_faults (Err Read) = 0
write_faults (Err Write) = 1
write_faults (Err WriteFile) = 0
write_faults (Err NoRun) = 0
write_faults (Err Memory) = 0

-- how many reads failed of an input that is read by itself: the one by which the command ends
abbrev pub read_faults : Result ⊤ Fault → ℕ
read_faults (Ok done) = 0
read_faults (Err BadCommand) = 0
read_faults (Err (BadLine n)) = 0
read_faults (Err Read) = 1
read_faults (Err Write) = 0
read_faults (Err WriteFile) = 0
read_faults (Err NoRun) = 0
read_faults (Err Memory) = 0

-- how many reads of the input had failed, and then have: at most one more, by which the command ends. A read fault may be a file's
abbrev pub AreReadFaults : Result ⊤ Fault → ℕ → ℕ → Type 0
AreReadFaults (Ok done) old new = new ≡ old
AreReadFaults (Err BadCommand) old new = new ≡ old
AreReadFaults (Err (BadLine n)) old new = new ≡ old
AreReadFaults (Err Read) old new = (new ≡ old) ⊎ (new ≡ old + 1)
AreReadFaults (Err Write) old new = new ≡ old
AreReadFaults (Err WriteFile) old new = new ≡ old
AreReadFaults (Err NoRun) old new = new ≡ old
AreReadFaults (Err Memory) old new = new ≡ old

module _ {A : Type 0} (faults : A → ℕ) (answer : Result ⊤ Fault) where
  -- Each fault of the input ends the command, which tells it, and of a bad command nothing is read.
  pub record HasRead (old new : A) : Type 0 where
    pub counted : AreReadFaults answer (faults old) (faults new)
    pub untouched : answer ≡ Err BadCommand → new ≡ old

  -- Each fault of the output ends the command, which tells it, and of a bad command nothing is written.
  pub record HasWritten (old new : A) : Type 0 where
    pub counted : faults new ≡ faults old + write_faults answer
    pub untouched : answer ≡ Err BadCommand → new ≡ old

-- A script, or a workload, was read and run. It ended by an answer of its own, from which the command's follows; and where the reader tells
-- its bytes, this says of them, of those that are left and of the answer what the script, or the workload, promises.
pub record IsRun {A : Type 0} (tells : A → Option (List ℕ)) (Promises : List ℕ → Option (List ℕ) → Result ⊤ ScriptError → Type 0) (Follows : Result ⊤ ScriptError → Result ⊤ Fault → Type 0) (reader reader' : A) (answer : Result ⊤ Fault) : Type 0 where
  pub ended : Result ⊤ ScriptError
  pub follows : Follows ended answer
  pub kept : (bytes : List ℕ) → tells reader ≡ Some bytes → Promises bytes (tells reader') ended

module _ {A : Type 0} (tells : A → Option (List ℕ)) (pages : ℕ) (wrote writes : Option (List ℕ)) (reader reader' : A) (answer : Result ⊤ Fault) where
  -- the script in a reader was run, and what was written answers it
  abbrev pub RunsScript : Type 0
  RunsScript = IsRun tells (λ bytes left ended. Serves pages bytes left wrote writes ended) IsSame reader reader' answer

  -- the workload in a reader was run on threads, and its replies were written
  abbrev pub RunsWorkload : Type 0
  RunsWorkload = IsRun tells (λ bytes left ended. ServesWorkload pages bytes left wrote writes ended) IsSame reader reader' answer

  -- the same, of one whose history is written down
  abbrev pub RecordsWorkload : Type 0
  RecordsWorkload = IsRun tells (λ bytes left ended. ServesWorkload pages bytes left wrote writes ended) IsSameOrUnrecorded reader reader' answer

-- A random script was written, or a front of it, or nothing.
pub record WritesStress (text : List ℕ) (wrote writes : Option (List ℕ)) (answer : Result ⊤ Fault) : Type 0 where
  pub ended : Result ⊤ ScriptError
  pub follows : IsSame ended answer
  pub written : IsWrittenAs text wrote writes ended

-- no file was opened
abbrev pub IsUnopened : Result ⊤ Fault → Type 0
IsUnopened answer = (answer ≡ Err Read) ⊎ (answer ≡ Err Memory)

-- A file was opened, and this was done with it; or none was, and then nothing is written.
abbrev pub OfFile : {F O : Type 0} → (F → F → Type 0) → O → O → Result ⊤ Fault → Type 0
OfFile {F} {O} Done output output' answer = ((file : F) × (file' : F) × Done file file') ⊎ (IsUnopened answer × (output' ≡ output))

module _ {I F O : Type 0} (input_tells : I → Option (List ℕ)) (file_tells : F → Option (List ℕ)) (written : O → Option (List ℕ)) (reads : I → ℕ) (input input' : I) (output output' : O) (answer : Result ⊤ Fault) where
  -- What a request leads to. But for a script in the input, of which a read fault is a fault of this input, the input stays as it was.
  abbrev pub Does : Request → Type 0
  Does (Run pages) = RunsScript input_tells pages (written output) (written output') input input' answer × (reads input' ≡ reads input + read_faults answer)
  Does (RunFile pages path) = (input' ≡ input) × OfFile (λ file file'. RunsScript file_tells pages (written output) (written output') file file' answer) output output' answer
  Does (Threads pages helpers path) = (input' ≡ input) × OfFile (λ file file'. RunsWorkload file_tells pages (written output) (written output') file file' answer) output output' answer
  Does (Record pages helpers path history) = (input' ≡ input) × OfFile (λ file file'. RecordsWorkload file_tells pages (written output) (written output') file file' answer) output output' answer
  Does (Stress seed mutators steps) = (input' ≡ input) × WritesStress (stress_text seed mutators steps) (written output) (written output') answer

-- A request was obeyed: it led to what it has to, and each fault of the input and of the output is told.
pub record IsObeyed {I F O : Type 0} (input_tells : I → Option (List ℕ)) (file_tells : F → Option (List ℕ)) (written : O → Option (List ℕ)) (reads : I → ℕ) (writes : O → ℕ) (request : Request) (input input' : I) (output output' : O) (answer : Result ⊤ Fault) : Type 0 where
  pub does : Does input_tells file_tells written reads input input' output output' answer request
  pub read : HasRead reads answer input input'
  pub wrote : HasWritten writes answer output output'

module _ {I F O : Type 0} (input_tells : I → Option (List ℕ)) (file_tells : F → Option (List ℕ)) (written : O → Option (List ℕ)) (reads : I → ℕ) (writes : O → ℕ) where
  -- A request is obeyed. Where the words make none, their fault is the answer, and neither the input nor the output is touched.
  abbrev pub IsAnswered : Result Request Fault → I → I → O → O → Result ⊤ Fault → Type 0
  IsAnswered (Ok request) input input' output output' answer = IsObeyed input_tells file_tells written reads writes request input input' output output' answer
  IsAnswered (Err fault) input input' output output' answer = (answer ≡ Err fault) × (input' ≡ input) × (output' ≡ output)

-- The program ends with the status and the line of an answer to what its words ask for.
pub record ProgramEnds (IsAnswer : Result ⊤ Fault → Type 0) (status : ℕ) (told told' : Option (List ℕ)) (faults faults' : ℕ) : Type 0 where
  pub answer : Result ⊤ Fault
  pub is_answer : IsAnswer answer
  pub ends : Ends answer status told told' faults faults'
