-- What the program may be asked to do.
use Rattle.std.specs.Prelude.{◌≡◌, ◌≤◌, ◌⊎◌, ℕ, Result, Ok, Err}
use Rattle.words.specs.declared.limits.TheConstants.{MAX_PAGES, SLOTS}
use Rattle.workloads.specs.declared.limits.TheConstants.{MAX_STEPS}
use Rattle.programs.specs.declared.fault.Fault.{Fault}
use Rattle.programs.specs.declared.fault.Fault.TheVariants.{BadCommand, Memory}
use Rattle.command_line.specs.declared.request.Request.{Request}
use Rattle.command_line.specs.declared.request.Request.TheVariants.{Run, RunFile, Threads, Record, Stress}

-- a number of pages that a heap may have
abbrev pub IsSize : ℕ → Type 0
IsSize pages = (1 ≤ pages) × (pages ≤ MAX_PAGES)

-- its numbers are in range
abbrev pub CanBeDone : Request → Type 0
CanBeDone (Run pages) = IsSize pages
CanBeDone (RunFile pages path) = IsSize pages
CanBeDone (Threads pages helpers path) = IsSize pages
CanBeDone (Record pages helpers path history) = IsSize pages
CanBeDone (Stress seed mutators steps) = (1 ≤ mutators) × (mutators ≤ SLOTS) × (steps ≤ MAX_STEPS)

-- what words may be read as: a request that can be done, or that they are of none, or that memory was refused
abbrev pub MayBeRead : Result Request Fault → Type 0
MayBeRead (Ok request) = CanBeDone request
MayBeRead (Err fault) = (fault ≡ BadCommand) ⊎ (fault ≡ Memory)
