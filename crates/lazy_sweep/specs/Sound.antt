-- What is true of a page table between its calls, and what sweeps do to it.
use Rattle.std.specs.Prelude.{◌≡◌, ℕ, Bool, List, length}
use Rattle.words.specs.Bits.{Has, IsClear}
use Rattle.pages.specs.Runs.{AreAllFree}
use Rattle.block_map.specs.Listed.{AreListed}
use Rattle.block_map.specs.States.{PageState, state_at, AreFreePages, IsCut}
use Rattle.lazy_sweep.specs.AvailableRows.{AreClear, AreReady, AreWaiting}
use Rattle.lazy_sweep.specs.Store.{Agree, HasObjects, Store}
use Rattle.lazy_sweep.specs.Sweeps.{Sweeps, SweepsPage}
use Rattle.lazy_sweep.specs.declared.table.PageTable.{PageTable}

-- the row of the pages that are still to be swept
abbrev pub pending_of : PageTable → List Bool
pending_of t = t.pending

-- the rows of these pages by class and kind
abbrev pub waiting_of : PageTable → List (List Bool)
waiting_of t = t.waiting

-- The pages of a new table: each is free, and none is ready or pending.
pub record IsNewTable (t : PageTable) (pages : ℕ) : Type 0 where
  pub pool : AreAllFree t.pool pages
  pub map : AreFreePages t.map pages
  pub ready : AreClear t.ready pages
  pub pending : IsClear t.pending pages
  pub waiting : AreClear t.waiting pages

-- The rows of the pages that are ready and of those that wait for a sweep are exact, and the pending pages are cut.
pub record AreExactRows (t : PageTable) : Type 0 where
  pub exact : AreReady t.ready t.map t.pending
  pub awaited : AreWaiting t.waiting t.map t.pending
  pub size : length t.pending ≡ length t.map
  pub cut : (page : ℕ) → Has t.pending page → IsCut (state_at t.map page)

-- Pool and map agree on which pages are free, each page that is cut has an object, and the rows are exact.
pub record IsSound (t : PageTable) : Type 0 where
  pub agree : Agree t.pool t.map
  pub used : HasObjects t.map
  pub rows : AreExactRows t

-- the store of these words and these pages
abbrev pub store_with : List ℕ → PageTable → Store
store_with words t = record { words = words; free = t.pool; states = t.map; pending = t.pending }

-- a list of free cells that stands in the memory stays one, since no word is written
abbrev pub KeepsLists : List PageState → List PageState → Type 0
KeepsLists states states' = (words : List ℕ) → AreListed words states → AreListed words states'

-- A page was swept by these marks, whatever words the memory has.
pub record SweepsOne (old : PageTable) (marks : List Bool) (page : ℕ) (new : PageTable) : Type 0 where
  pub sweeps : (words : List ℕ) → SweepsPage (store_with words old) marks page (store_with words new)
  pub sound : IsSound new
  pub lists : KeepsLists old.map new.map

-- Pages were swept by these marks, whatever words the memory has.
pub record SweepsSome (old : PageTable) (marks : List Bool) (new : PageTable) : Type 0 where
  pub sweeps : (words : List ℕ) → Sweeps (store_with words old) marks (store_with words new)
  pub sound : IsSound new
  pub lists : KeepsLists old.map new.map
