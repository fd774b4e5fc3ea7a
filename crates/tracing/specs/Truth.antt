-- What is true of a heap, as a trace shows it.
use Rattle.std.specs.Prelude.{◌≡◌, ℕ, Bool, false, List, [], if◌then◌else◌, length, slice_index_or}
use Rattle.plain_heap.specs.declared.extent.Extent.{Extent}
use Rattle.pages.specs.Memory.{word_index}
use Rattle.plain_heap.specs.Flags.{FlagsReached}
use Rattle.replayer.specs.ReplayerContents.{ReplayerContents}
use Rattle.tracing.specs.declared.truth.Truth.{Truth}
use Rattle.tracing.specs.Sets.{places_that}

-- the places of those objects that have their flags
abbrev pub flagged : List Bool → List Extent → List ℕ
flagged flags objects = places_that (λ base. slice_index_or flags (word_index base) false) objects

-- The objects, which of them are reached and, while a cycle marks, touched, the links, the phase and the count, of a
-- checker. The reached ones are told by a row of flags of this size.
pub record IsTrueOf (r : ReplayerContents) (size : ℕ) (t : Truth) : Type 0 where
  pub objects : t.objects.items ≡ r.heap.objects
  pub flags : List Bool
  pub room : length flags ≡ size
  pub tells : FlagsReached r.heap flags
  pub reached : t.reached.items ≡ flagged flags r.heap.objects
  pub touched : t.touched.items ≡ (if r.marking then flagged r.touched r.heap.objects else [])
  pub links : t.links.items ≡ r.heap.links
  pub marking : t.is_marking ≡ r.marking
  pub count : t.count ≡ r.number

-- What is true of a new heap: nothing is there, and no cycle was.
pub record IsBare (t : Truth) : Type 0 where
  pub objects : t.objects.items ≡ []
  pub reached : t.reached.items ≡ []
  pub touched : t.touched.items ≡ []
  pub links : t.links.items ≡ []
  pub marking : t.is_marking ≡ false
  pub count : t.count ≡ 0
