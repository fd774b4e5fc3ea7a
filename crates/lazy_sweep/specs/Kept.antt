-- Which objects are kept while pages are pending.
use Rattle.std.specs.Prelude.{ℕ, Bool, true, false, if◌then◌else◌, List, slice_index_or, Option, Some, None}
use Rattle.words.specs.Layout.{granule}
use Rattle.block_map.specs.declared.found.Found.{Found}
use Rattle.block_map.specs.FoundIn.{found_in}
use Rattle.block_map.specs.States.{PageState}

-- the object, if it is one of these
abbrev pub keep_if : (Found → Bool) → Option Found → Option Found
keep_if keep None = None
keep_if keep (Some f) = if keep f then Some f else None

-- the function from words to those of the objects alone
abbrev pub restrict : (Found → Bool) → (ℕ → Option Found) → ℕ → Option Found
restrict keep found w = keep_if keep (found w)

-- An object is kept if it is allocated and, on a pending page, marked.
abbrev pub is_kept : List Bool → List Bool → Found → Bool
is_kept pending marks f = if slice_index_or pending f.page false then slice_index_or marks (granule f.base) false else true

-- the kept object that a word points into
abbrev pub kept_in : List PageState → List Bool → List Bool → ℕ → Option Found
kept_in states pending marks = restrict (is_kept pending marks) (found_in states)
