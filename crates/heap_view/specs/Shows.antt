-- What a map and a memory show of a heap.
use Rattle.std.specs.Prelude.{◌≡◌, ℕ, ◌+◌, ◌<◌, ◌≤◌, List, length, slice_index, Option, Some}
use Rattle.pages.specs.Memory.{word_index}
use Rattle.block_map.specs.declared.found.Found.{Found}
use Rattle.heap_spec.specs.Heap.{Heap, Object, HasObject}
use Rattle.heap_spec.specs.Sound.{HaveDistinctBirths}
use Rattle.marker.specs.Marking.{Marking, IsMarked}

-- The object of the heap is the one that the map finds, and has the words that the memory has there.
pub record IsShown (words : List ℕ) (f : Found) (o : Object) : Type 0 where
  pub kind : o.kind ≡ f.kind
  pub size : length o.words ≡ f.len
  pub word : (i : ℕ) → i < f.len → slice_index o.words i ≡ slice_index words (word_index f.base + i)

-- The objects are those that the map finds.
pub record ShowsObjects (found : ℕ → Option Found) (words : List ℕ) (objects : ℕ → Option Object) : Type 0 where
  pub kept : (f : Found) → found f.base ≡ Some f → (o : Object) × (objects f.base ≡ Some o) × IsShown words f o
  pub only : (base : ℕ) (o : Object) → objects base ≡ Some o → (f : Found) × (found base ≡ Some f) × (f.base ≡ base)

-- They are, and their births, which neither map nor memory keeps, are distinct and from 1 up to the count.
pub record Shows (found : ℕ → Option Found) (words : List ℕ) (objects : ℕ → Option Object) (births : ℕ) : Type 0 where
  pub shown : ShowsObjects found words objects
  pub born : (base : ℕ) (o : Object) → objects base ≡ Some o → (1 ≤ o.birth) × (o.birth ≤ births)
  pub distinct : HaveDistinctBirths objects

-- the map and the memory show the objects of the heap
abbrev pub ShowsHeap : (ℕ → Option Found) → List ℕ → Heap → Type 0
ShowsHeap found words s = Shows found words s.objects s.births

-- the object with this base has one of the births
abbrev pub HasBirth : Heap → (ℕ → Type 0) → ℕ → Type 0
HasBirth s births b = (o : Object) × HasObject s b o × births o.birth

-- the birth is that of a marked object
pub record IsMarkedBirth (s : Heap) (m : Marking) (birth : ℕ) : Type 0 where
  pub base : ℕ
  pub object : Object
  pub has : HasObject s base object
  pub same : object.birth ≡ birth
  pub marked : IsMarked m base
