-- Which objects a core still keeps.
use Rattle.std.specs.Prelude.{◌≡◌, ◌++◌, ◌∷◌, [], ℕ, List, Some, Contains, nat_eq, ◌⊎◌}
use Rattle.std.specs.List.{IsDistinct}
use Rattle.block_map.specs.declared.found.Found.{Found}
use Rattle.heap_core.specs.CoreContents.{CoreContents}
use Rattle.heap_core.specs.Standing.{objects_of}

-- the core keeps an object with this base
abbrev pub IsBase : CoreContents → ℕ → Type 0
IsBase c base = (f : Found) × (objects_of c base ≡ Some f) × (f.base ≡ base)

-- One base goes to those that stay, or to those that are gone.
pub data SortsOne (c : CoreContents) (base : ℕ) (stay gone stay' gone' : List ℕ) : Type 0 where
  stays : IsBase c base → stay' ≡ stay ++ base ∷ [] → gone' ≡ gone → SortsOne c base stay gone stay' gone'
  goes : (IsBase c base → ⊥) → stay' ≡ stay → gone' ≡ gone ++ base ∷ [] → SortsOne c base stay gone stay' gone'

-- Those that stay are the bases that the core keeps, the others are gone, and none comes twice if none did.
pub record SortsOut (c : CoreContents) (all stay gone : List ℕ) : Type 0 where
  pub stays : (base : ℕ) → Contains stay base → Contains all base × IsBase c base
  pub goes : (base : ℕ) → Contains gone base → Contains all base × (IsBase c base → ⊥)
  pub each : (base : ℕ) → Contains all base → Contains stay base ⊎ Contains gone base
  pub distinct : IsDistinct nat_eq all → IsDistinct nat_eq stay × IsDistinct nat_eq gone
