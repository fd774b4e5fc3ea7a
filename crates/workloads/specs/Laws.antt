-- The law of random scripts.
use Rattle.std.specs.Prelude.{◌≡◌, ℕ, ◌+◌, ◌≤◌, length}
use Rattle.words.specs.declared.limits.TheConstants.{SLOTS}
use Rattle.scripts.specs.Lines.{lines_of}
use Rattle.workloads.specs.declared.limits.TheConstants.{MAX_STEPS}
use Rattle.workloads.specs.Workloads.{ActorLines, AreWorkload}
use Rattle.workloads.specs.Stress.{stress_text}

-- A random script is a workload of its mutators, with a line for each attach and for each step.
pub record IsStressWorkload (seed mutators steps : ℕ) : Type 0 where
  pub lists : ActorLines
  pub are : AreWorkload (lines_of (stress_text seed mutators steps)) lists
  pub mutators_are : length lists.mutators ≡ mutators
  pub count : length (lines_of (stress_text seed mutators steps)) ≡ mutators + steps

-- every random script is
abbrev pub StressIsWorkload : Type 0
StressIsWorkload = (seed mutators steps : ℕ) → mutators ≤ SLOTS → steps ≤ MAX_STEPS → IsStressWorkload seed mutators steps
