-- A page of the map as its state.
use Rattle.std.specs.Prelude.{◌≡◌, ℕ, ◌-◌, ◌++◌, List, length, replicate}
use Rattle.block_map.specs.declared.page.Page.{Page}
use Rattle.block_map.specs.declared.page.Page.TheVariants.{Free, Cut, Head, Body}
use Rattle.block_map.specs.States.{PageState, free, cut, head, body, state_at}

-- The state that a page of the map stands for.
abbrev pub shown : Page → PageState
shown Free = free
shown (Cut block) = cut block
shown (Head large) = head large.pages large.kind
shown (Body first) = body first

-- n pages, of which those past the ones that are made are free
unfoldable pub padded : List PageState → ℕ → List PageState
padded made n = made ++ replicate (n - length made) free

-- the same stands on each page of two lists
pub record IsSameStates (old new : List PageState) : Type 0 where
  pub at : (k : ℕ) → state_at new k ≡ state_at old k
