-- How commands end.
use Rattle.std.proofs.Common.{◌≡◌, ◌⊎◌, ap, inl, inr, ⊎_elim}
use Rattle.std.specs.Prelude.{Result, Err, ⊤}
use Rattle.scripts.specs.declared.errors.ScriptError.{ScriptError}
use Rattle.scripts.specs.declared.errors.ScriptError.TheVariants.{BadLine as LineIsBad, Read as ReadFailed, Write as WriteFailed, Memory as MemoryRefused}
use Rattle.programs.specs.declared.fault.Fault.{Fault}
use Rattle.programs.specs.declared.fault.Fault.TheVariants.{NoRun, Memory}
use Rattle.programs.specs.Faults.{fault_of}
use Rattle.command_line.specs.Obeying.{IsSameOrUnrecorded}

abbrev failed : Fault → Result ⊤ Fault
failed fault = Err fault

-- a fault for which nothing is written of a workload that was read
pub unrecorded : (fault : Fault) → (fault ≡ NoRun) ⊎ (fault ≡ Memory) → IsSameOrUnrecorded (Err MemoryRefused) (Err fault)
unrecorded fault either = ⊎_elim (λ e. inl (ap failed e)) (λ e. inr (ap failed e)) either

-- the fault of a workload is told
pub told : (error : ScriptError) (fault : Fault) → fault ≡ fault_of error → IsSameOrUnrecorded (Err error) (Err fault)
told (LineIsBad n) fault e = ap failed e
told ReadFailed fault e = ap failed e
told WriteFailed fault e = ap failed e
told MemoryRefused fault e = inr (ap failed e)
