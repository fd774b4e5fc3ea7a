-- What the end of a cycle forgets, page by page.
use Rattle.std.specs.Prelude.{◌≡◌, ℕ, ◌<◌, ◌≤◌, true, Bool, slice_set, List, [], ◌∷◌, length, Contains, All, nat_eq, Some}
use Rattle.std.specs.List.{IsDistinct}
use Rattle.words.specs.declared.limits.TheConstants.{PAGE_GRANULES, PAGE_WORDS}
use Rattle.words.specs.Bits.{Has}
use Rattle.words.specs.Layout.{granule}
use Rattle.block_map.specs.declared.found.Found.{Found}
use Rattle.block_map.specs.FoundIn.{found_in}
use Rattle.block_map.specs.States.{PageState, IsCut, state_at}
use Rattle.object_space.specs.Store.{Store}
use Rattle.object_space.specs.Sweeps.{Loses}

-- An unmarked object has the base, and it begins on the page.
pub record IsUnmarkedOn (states : List PageState) (marks : List Bool) (page base : ℕ) : Type 0 where
  pub object : Found
  pub is : found_in states base ≡ Some object
  pub at : object.base ≡ base
  pub on : object.page ≡ page
  pub unmarked : Has marks (granule base) → ⊥

-- These are the bases of all unmarked objects that begin on the page, each once.
pub record AreUnmarkedOn (states : List PageState) (marks : List Bool) (page : ℕ) (bases : List ℕ) : Type 0 where
  pub distinct : IsDistinct nat_eq bases
  pub each : All (IsUnmarkedOn states marks page) bases
  pub all : (f : Found) → found_in states f.base ≡ Some f → f.page ≡ page → (Has marks (granule f.base) → ⊥) → Contains bases f.base

-- What it is to the page that the objects with these bases are forgotten: nothing where there are none, a block becomes
-- pending, and a large object is gone.
pub data ForgetsBases (old : Store) (page : ℕ) (bases : List ℕ) (new : Store) : Type 0 where
  nothing : bases ≡ [] → new ≡ old → ForgetsBases old page bases new
  unswept : IsCut (state_at old.states page) → page < length old.pending → (base : ℕ) → Contains bases base → new ≡ record old { pending = slice_set old.pending page true } → ForgetsBases old page bases new
  gone : (f : Found) → found_in old.states f.base ≡ Some f → bases ≡ f.base ∷ [] → PAGE_WORDS ≤ f.len → (Has old.pending f.page → ⊥) → Loses old f new → ForgetsBases old page bases new

-- The unmarked objects that begin on a page are forgotten, so many.
pub record ForgetsOn (old : Store) (marks : List Bool) (page n : ℕ) (new : Store) : Type 0 where
  pub bases : List ℕ
  pub number : n ≡ length bases
  pub few : n ≤ PAGE_GRANULES
  pub objects : AreUnmarkedOn old.states marks page bases
  pub change : ForgetsBases old page bases new
