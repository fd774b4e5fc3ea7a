-- Changes of a map, as changes of the function from words to the objects that they point into.
use Rattle.std.specs.Prelude.{◌≡◌, ℕ, ◌<◌, ◌≤◌, ◌⊎◌, false, Bool, List, slice_index_or, Option, Some, None}
use Rattle.block_map.specs.Objects.{IsInside, large_object}
use Rattle.block_map.specs.States.{PageState, free, cut, head, body}
use Rattle.block_map.specs.declared.found.Found.{Found}

-- each word points into what it pointed into before
pub record IsSameMap (old new : ℕ → Option Found) : Type 0 where
  pub same : (w : ℕ) → new w ≡ old w

-- there is one object more, at words that pointed into nothing before, and nothing else has changed
pub record IsAdded (old new : ℕ → Option Found) (f : Found) : Type 0 where
  pub before : (w : ℕ) → IsInside w f → old w ≡ None
  pub after : (w : ℕ) → IsInside w f → new w ≡ Some f
  pub others : (w : ℕ) → (IsInside w f → ⊥) → new w ≡ old w

-- there is one object less, and nothing else has changed
abbrev pub IsRemoved : (ℕ → Option Found) → (ℕ → Option Found) → Found → Type 0
IsRemoved old new f = IsAdded new old f

-- words from one address up to another point into nothing, and nothing else has changed
pub record IsCleared (old new : ℕ → Option Found) (low high : ℕ) : Type 0 where
  pub inside : (w : ℕ) → low ≤ w → w < high → new w ≡ None
  pub others : (w : ℕ) → (w < low) ⊎ (high ≤ w) → new w ≡ old w

-- no cell is allocated
abbrev pub HasNoObject : List Bool → Type 0
HasNoObject taken = (k : ℕ) → slice_index_or taken k false ≡ false

-- what goes with a page that becomes free: a large object, or nothing if it was a block with no object
abbrev pub IsUncut : ℕ → PageState → (ℕ → Option Found) → (ℕ → Option Found) → Type 0
IsUncut page free old new = IsSameMap old new
IsUncut page (cut b) old new = HasNoObject b.taken → IsSameMap old new
IsUncut page (head n kind) old new = IsRemoved old new (large_object page n kind)
IsUncut page (body first) old new = Unit {0}
