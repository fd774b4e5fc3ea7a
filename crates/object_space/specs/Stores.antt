-- Which heap a store has.
use Rattle.std.specs.Prelude.{Bool, ◌≡◌, length}
use Rattle.heap_spec.specs.Heap.{Heap}
use Rattle.block_map.specs.FoundIn.{found_in}
use Rattle.block_map.specs.declared.found.Found.{Found}
use Rattle.heap_view.specs.Shows.{ShowsHeap}
use Rattle.object_space.specs.Kept.{restrict}
use Rattle.object_space.specs.Store.{Store}

-- The store has the pages of the heap, and those of its objects that are kept are the heap's.
pub record Stores (keep : Found → Bool) (t : Store) (s : Heap) : Type 0 where
  pub pages : s.pages ≡ length t.states
  pub shows : ShowsHeap (restrict keep (found_in t.states)) t.words s
