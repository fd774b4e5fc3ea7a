-- Where the heap of a run lies.
use Rattle.std.specs.Prelude.{◌≡◌, ℕ, ◌+◌, ◌*◌, ◌%◌, ◌<◌}
use Rattle.words.specs.declared.limits.TheConstants.{WORD_BYTES, PAGE_BYTES, FIRST_ADDRESS}
use Rattle.heap_spec.specs.Layout.{word_end}
use Rattle.replayer.specs.ReplayerContents.{ReplayerContents}
use Rattle.written_runs.specs.declared.places.Places.{Places}
use Rattle.written_runs.specs.declared.places.Places.TheVariants.{Classes, Any}

-- where the heap begins
abbrev pub first_of : Places → ℕ
first_of Classes = FIRST_ADDRESS
first_of (Any from) = from

-- A heap of so many pages that begins at an address: this is a multiple of 8 past 0, and the end of the heap lies below 2 ^ 64.
pub record IsRange (from pages : ℕ) : Type 0 where
  pub aligned : from % WORD_BYTES ≡ 0
  pub past_zero : 0 < from
  pub ends : from + PAGE_BYTES * pages < word_end

-- the heap has a range, as it always has where objects lie in classes
abbrev pub HasRange : Places → ℕ → Type 0
HasRange Classes pages = Unit {0}
HasRange (Any from) pages = IsRange from pages

-- the heap of the replayer begins there
abbrev pub BeginsBy : Places → ReplayerContents → Type 0
BeginsBy places r = r.heap.origin ≡ first_of places
