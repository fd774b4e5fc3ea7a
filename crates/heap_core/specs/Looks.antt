-- What a core is asked that no reply says.
use Rattle.std.specs.Prelude.{ℕ, ◌==◌, ◌&&◌, Bool, false, Option, Some, None, slice_index_or}
use Rattle.words.specs.Layout.{granule}
use Rattle.block_map.specs.declared.found.Found.{Found}
use Rattle.heap_core.specs.CoreContents.{CoreContents}
use Rattle.heap_core.specs.Standing.{objects_of}

-- whether the object is there and begins at the base
abbrev pub begins_at : ℕ → Option Found → Bool
begins_at base None = false
begins_at base (Some f) = f.base == base

-- whether an object that begins at the base is kept
abbrev pub keeps_at : CoreContents → ℕ → Bool
keeps_at c base = begins_at base (objects_of c base)

-- whether it is kept and marked
abbrev pub marks_at : CoreContents → ℕ → Bool
marks_at c base = keeps_at c base && slice_index_or c.cycle.marker.marks (granule base) false
