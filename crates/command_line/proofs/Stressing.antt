-- What is done for a random script.
use Rattle.std.proofs.Common.{◌≡◌, refl, sym, subst, inl}
use Rattle.std.specs.Prelude.{ℕ, List, Option, Result, Ok, Err, ⊤}
use Rattle.workloads.specs.Stress.{stress_text}
use Rattle.programs.specs.declared.fault.Fault.{Fault}
use Rattle.programs.specs.declared.fault.Fault.TheVariants.{BadCommand, BadLine, Read, Write, WriteFile, NoRun, Memory}
use Rattle.command_line.specs.declared.request.Request.{Request}
use Rattle.command_line.specs.declared.request.Request.TheVariants.{Stress}
use Rattle.command_line.specs.Obeying.{AreReadFaults, HasRead, HasWritten, WritesStress, IsObeyed}

no_fault : (answer : Result ⊤ Fault) (n : ℕ) → AreReadFaults answer n n
no_fault (Ok done) n = refl
no_fault (Err BadCommand) n = refl
no_fault (Err (BadLine k)) n = refl
no_fault (Err Read) n = inl refl
no_fault (Err Write) n = refl
no_fault (Err WriteFile) n = refl
no_fault (Err NoRun) n = refl
no_fault (Err Memory) n = refl

-- an input that isn't touched has no fault more
unread : {I : Type 0} (reads : I → ℕ) (answer : Result ⊤ Fault) (input : I) → HasRead reads answer input input
unread reads answer input = record { counted = no_fault answer (reads input); untouched = λ bad. refl }

-- the script that was asked for is written
pub stressed : {I F O : Type 0} (input_tells : I → Option (List ℕ)) (file_tells : F → Option (List ℕ)) (written : O → Option (List ℕ)) (reads : I → ℕ) (writes : O → ℕ) (request : Request) (seed mutators steps : ℕ) → request ≡ Stress seed mutators steps
    → (input : I) (output output' : O) (answer : Result ⊤ Fault) → WritesStress (stress_text seed mutators steps) (written output) (written output') answer → HasWritten writes answer output output'
    → IsObeyed input_tells file_tells written reads writes request input input output output' answer
stressed input_tells file_tells written reads writes request seed mutators steps is input output output' answer does wrote =
    subst (λ (r : Request). IsObeyed input_tells file_tells written reads writes r input input output output' answer) (sym is) (record { does = (refl, does); read = unread reads answer input; wrote = wrote })
