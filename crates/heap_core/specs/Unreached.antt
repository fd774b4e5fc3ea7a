-- What the marks tell before a cycle ends.
use Rattle.std.specs.Prelude.{◌≡◌, ℕ, true}
use Rattle.heap_spec.specs.Closure.{Reached}
use Rattle.heap_spec.specs.Heap.{Heap, Object, HasObject}
use Rattle.block_map.specs.FoundIn.{found_in}
use Rattle.marker.specs.Invariant.{AreRootsMarked}
use Rattle.marker.specs.Marking.{IsDone}
use Rattle.roots.specs.Roots.{root_words_of}
use Rattle.heap_core.specs.CoreContents.{CoreContents}
use Rattle.heap_core.specs.DirectWrites.{IsWholeCore}
use Rattle.heap_core.specs.Looks.{marks_at}
use Rattle.heap_core.specs.Standing.{StandsFor}

-- While a cycle is marking, with no page dirty, no entry left, and all marked that root words point into, each object that is
-- reached is marked: to one that isn't no root leads.
abbrev pub UnmarkedIsUnreached : Type 0
UnmarkedIsUnreached = (c : CoreContents) → IsWholeCore c → c.cycle.is_marking ≡ true → IsDone c.cycle.marker → AreRootsMarked (found_in c.store.states) (root_words_of c.roots) c.cycle.marker
    → (s : Heap) (base : ℕ) (o : Object) → StandsFor c s → HasObject s base o → Reached s base → marks_at c base ≡ true
