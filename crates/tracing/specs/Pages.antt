-- What a collector knows, as a trace shows it.
use Rattle.std.specs.Prelude.{◌≡◌, ℕ, Bool, false, Option, Some, None, List, [], map, slice_index_or}
use Rattle.std.specs.Borrow.{Bor}
use Rattle.std.specs.Option.{option_map}
use Rattle.heap_core.specs.CoreContents.{CoreContents}
use Rattle.heap_core.specs.Looks.{marks_at}
use Rattle.plain_heap.specs.declared.extent.Extent.{Extent}
use Rattle.tracing.specs.declared.knowledge.Knowledge.{Knowledge}
use Rattle.tracing.specs.declared.knowledge.PageSet.{PageSet}
use Rattle.tracing.specs.declared.knowledge.PageSet.TheVariants.{Dirty, Carried, Pending}
use Rattle.tracing.specs.Sets.{places_that, those_that}
use Rattle.tracing.specs.Entries.{shown}

-- whether a page is in a set of the collector
abbrev pub is_in : CoreContents → PageSet → ℕ → Bool
is_in c Dirty page = slice_index_or c.cycle.marker.dirty page false
is_in c Carried page = slice_index_or c.cycle.marker.carried page false
is_in c Pending page = slice_index_or c.store.pending page false

-- The collector's marks of these objects, its sets of these pages, and its entries.
pub record IsKnown (c : CoreContents) (objects : List Extent) (pages : List ℕ) (k : Knowledge) : Type 0 where
  pub marked : k.marked.items ≡ places_that (λ base. marks_at c base) objects
  pub dirty : k.dirty.items ≡ those_that (λ page. is_in c Dirty page) pages
  pub carried : k.carried.items ≡ those_that (λ page. is_in c Carried page) pages
  pub pending : k.pending.items ≡ those_that (λ page. is_in c Pending page) pages
  pub entries : k.entries.items ≡ map shown c.cycle.marker.stack
  pub current : k.current ≡ option_map shown c.cycle.marker.current

-- Nothing is known of a collector.
pub record IsNothing (k : Knowledge) : Type 0 where
  pub marked : k.marked.items ≡ []
  pub dirty : k.dirty.items ≡ []
  pub carried : k.carried.items ≡ []
  pub pending : k.pending.items ≡ []
  pub entries : k.entries.items ≡ []
  pub current : k.current ≡ None

-- what the core's collector knows of these objects and pages, if there is a core
abbrev pub KnowsOf : Option (Bor CoreContents) → List Extent → List ℕ → Knowledge → Type 0
KnowsOf None objects pages k = IsNothing k
KnowsOf (Some core) objects pages k = IsKnown core.now objects pages k
