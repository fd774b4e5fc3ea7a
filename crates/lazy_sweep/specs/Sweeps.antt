-- Pages that are swept, as changes of the store.
use Rattle.std.specs.Prelude.{◌≡◌, ℕ, ◌≤◌, ◌≢◌, count_by, Bool, false, slice_set, List, length, Some}
use Rattle.words.specs.Bits.{Has}
use Rattle.words.specs.Layout.{granule}
use Rattle.block_map.specs.Changes.{IsSameMap}
use Rattle.block_map.specs.declared.found.Found.{Found}
use Rattle.block_map.specs.FoundIn.{found_in}
use Rattle.block_map.specs.Objects.{IsMap}
use Rattle.marker.specs.Mutations.{HasNoNew, KeepsWords}
use Rattle.lazy_sweep.specs.Kept.{kept_in}
use Rattle.lazy_sweep.specs.Store.{Store}

-- A page was swept: its unmarked objects are gone, and it is not pending any more. The words of all others stay, and
-- nothing else has changed.
pub record SweepsPage (old : Store) (marks : List Bool) (page : ℕ) (new : Store) : Type 0 where
  pub words : KeepsWords (found_in new.states) old.words new.words
  pub pages : length new.states ≡ length old.states
  pub pending : new.pending ≡ slice_set old.pending page false
  pub others : (w : ℕ) (f : Found) → found_in old.states w ≡ Some f → f.page ≢ page → found_in new.states w ≡ Some f
  pub marked : (w : ℕ) (f : Found) → found_in old.states w ≡ Some f → f.page ≡ page → Has marks (granule f.base) → found_in new.states w ≡ Some f
  pub only : (w : ℕ) (f : Found) → found_in new.states w ≡ Some f → (found_in old.states w ≡ Some f) × (f.page ≡ page → Has marks (granule f.base))

-- one of the pending pages was swept
abbrev pub SweepsAny : Store → List Bool → Store → Type 0
SweepsAny old marks new = (page : ℕ) × Has old.pending page × SweepsPage old marks page new

-- Pages were swept: the kept objects are the same, no object has come, and those of a page that is still pending are all
-- there. The words of the objects that are left stay.
pub record Sweeps (old : Store) (marks : List Bool) (new : Store) : Type 0 where
  pub before : IsMap (length old.states) (found_in old.states)
  pub words : KeepsWords (found_in new.states) old.words new.words
  pub pages : length new.states ≡ length old.states
  pub same : IsSameMap (kept_in old.states old.pending marks) (kept_in new.states new.pending marks)
  pub less : HasNoNew (found_in old.states) (found_in new.states)
  pub waiting : (w : ℕ) (f : Found) → found_in old.states w ≡ Some f → Has new.pending f.page → found_in new.states w ≡ Some f
  pub fewer : (page : ℕ) → Has new.pending page → Has old.pending page
  pub number : count_by (λ b. b) new.pending ≤ count_by (λ b. b) old.pending
