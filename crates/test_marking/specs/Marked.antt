-- A heap under a marker.
use Rattle.std.specs.Prelude.{◌≡◌, ℕ, List, length}
use Rattle.block_map.specs.Listed.{AreListed}
use Rattle.block_map.specs.States.{PageState}
use Rattle.block_map.specs.FoundIn.{found_in}
use Rattle.marker.specs.Marking.{Marking, AreMarksObjects}
use Rattle.marker.specs.Invariant.{DirtyPageInvariant}

-- Map, words and marker are those of one heap, the lists of free cells stand in its words, each mark is that of an object, and the
-- dirty-page invariant holds.
pub record IsOfOneHeap (states : List PageState) (words : List ℕ) (m : Marking) : Type 0 where
  pub pages : length m.dirty ≡ length states
  pub listed : AreListed words states
  pub objects : AreMarksObjects (found_in states) m
  pub invariant : DirtyPageInvariant (found_in states) words m
