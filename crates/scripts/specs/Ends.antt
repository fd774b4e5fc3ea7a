-- How a run of a script ends: at its end, at a bad line, or at the first call of its reader or its writer that fails.
use Rattle.std.specs.Prelude.{ℕ, Result, Ok, Err}
use Rattle.scripts.specs.declared.errors.ScriptError.{ScriptError}
use Rattle.scripts.specs.declared.errors.ScriptError.TheVariants.{BadLine, Read, Write, Memory}

-- how many calls of the reader failed
abbrev pub read_faults : {A : Type 0} → Result A ScriptError → ℕ
read_faults (Ok done) = 0
read_faults (Err (BadLine n)) = 0
read_faults (Err Read) = 1
read_faults (Err Write) = 0
read_faults (Err Memory) = 0

-- how many calls of the writer failed
abbrev pub write_faults : {A : Type 0} → Result A ScriptError → ℕ
write_faults (Ok done) = 0
write_faults (Err (BadLine n)) = 0
write_faults (Err Read) = 0
write_faults (Err Write) = 1
write_faults (Err Memory) = 0
