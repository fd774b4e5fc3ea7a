-- The laws, each a statement of its own.
use Rattle.std.specs.Prelude.{◌≡◌, ◌↔◌, ℕ, Option, Some, Bool, true, List}
use Rattle.block_map.specs.declared.found.Found.{Found}
use Rattle.block_map.specs.Objects.{IsMap}
use Rattle.heap_spec.specs.Heap.{Heap, root_words}
use Rattle.heap_spec.specs.Sound.{HaveDistinctBirths}
use Rattle.heap_spec.specs.Closure as heap
use Rattle.marker.specs.Marking.{Marking, IsMarked}
use Rattle.marker.specs.Closure.{Closure}
use Rattle.heap_view.specs.Shows.{ShowsObjects, HasBirth, IsMarkedBirth}

-- An object is in the marker's closure of the objects of some births exactly if it is in the heap's closure of these
-- births.
abbrev pub ClosuresAgree : Type 0
ClosuresAgree = (pages : ℕ) (s : Heap) (found : ℕ → Option Found) (words : List ℕ) (births : ℕ → Bool)
    → IsMap pages found → ShowsObjects found words s.objects → (f : Found) → found f.base ≡ Some f
    → (Closure found words (root_words s) (HasBirth s (λ b. births b ≡ true)) f ↔ heap.Closure s (λ b. births b ≡ true) f.base)

-- Where no two objects have one birth, an object is in the marker's closure of the marks exactly if it is in the heap's
-- closure of the births of marked objects.
abbrev pub MarkedClosuresAgree : Type 0
MarkedClosuresAgree = (pages : ℕ) (s : Heap) (found : ℕ → Option Found) (words : List ℕ) (m : Marking)
    → IsMap pages found → ShowsObjects found words s.objects → HaveDistinctBirths s.objects → (f : Found) → found f.base ≡ Some f
    → (Closure found words (root_words s) (IsMarked m) f ↔ heap.Closure s (IsMarkedBirth s m) f.base)
