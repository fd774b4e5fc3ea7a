-- What a new core is.
use Rattle.std.specs.Prelude.{◌≡◌, ℕ, true, false}
use Rattle.words.specs.declared.limits.TheConstants.{MAX_REQUEST_WORDS}
use Rattle.heap_spec.specs.Heap.{opening_with}
use Rattle.marker.specs.Marking.{IsBlank}
use Rattle.object_space.specs.Store.{IsSwept}
use Rattle.heap_core.specs.CoreContents.{CoreContents, IsCore}
use Rattle.heap_core.specs.Standing.{StandsFor}

-- The core is new: what is true of every core is true of it, it stands for a heap as it opens with these limits, no cycle
-- is marking and none is counted, nor a read, a full cycle is needed, no page is pending, and its marker has no mark, no dirty or
-- carried page and no entry.
pub record IsNewWith (pages request_words : ℕ) (c : CoreContents) : Type 0 where
  pub core : IsCore c
  pub stands : StandsFor c (opening_with pages request_words)
  pub phase : c.cycle.is_marking ≡ false
  pub count : c.cycle.count ≡ 0
  pub last_reads : c.cycle.reads.last ≡ 0
  pub all_reads : c.cycle.reads.all ≡ 0
  pub needs_full : c.cycle.needs_full ≡ true
  pub swept : IsSwept c.store
  pub blank : IsBlank pages c.cycle.marker

-- The same of a core of so many pages, where no limit is given.
abbrev pub IsNew : ℕ → CoreContents → Type 0
IsNew pages c = IsNewWith pages MAX_REQUEST_WORDS c
