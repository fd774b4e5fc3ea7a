-- Which objects are kept while pages are pending.
use Rattle.std.specs.Prelude.{◌≡◌, ℕ, Bool, List, Some}
use Rattle.words.specs.Bits.{Has}
use Rattle.words.specs.Layout.{granule}
use Rattle.block_map.specs.declared.found.Found.{Found}
use Rattle.block_map.specs.FoundIn.{found_in}
use Rattle.block_map.specs.States.{PageState, IsCut, state_at}
pub use Rattle.lazy_sweep.specs.Kept.{restrict, is_kept, kept_in}

-- The pages that are pending after a cycle: the blocks with an allocated object that is not marked.
pub record IsPendingAfter (states : List PageState) (marks pending : List Bool) : Type 0 where
  pub unmarked : (w : ℕ) (f : Found) → found_in states w ≡ Some f → IsCut (state_at states f.page) → (Has marks (granule f.base) → ⊥) → Has pending f.page
  pub only : (page : ℕ) → Has pending page → (w : ℕ) × (f : Found) × (found_in states w ≡ Some f) × (f.page ≡ page) × IsCut (state_at states page) × (Has marks (granule f.base) → ⊥)
