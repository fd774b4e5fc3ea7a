-- Words that a collection has to come back to.
use Rattle.std.specs.Prelude.{◌≡◌, ℕ, ◌+◌, ◌*◌, ◌<◌, ◌≤◌, length, slice_index}
use Rattle.words.specs.declared.class.Kind.TheVariants.{Normal}
use Rattle.words.specs.declared.limits.TheConstants.{FIRST_ADDRESS, WORD_BYTES}
use Rattle.words.specs.Layout.{page_of}
use Rattle.heap_spec.specs.Layout.{heap_end}
use Rattle.heap_spec.specs.Heap.{Heap, Object, HasObject, PointsIntoNothing}
use Rattle.heap_spec.specs.Closure.{Closure}

-- The word is stray: it lies in the heap's range of addresses and points into no object.
pub record IsStray (s : Heap) (w : ℕ) : Type 0 where
  pub from : FIRST_ADDRESS ≤ w
  pub below : w < heap_end s.pages
  pub nothing : PointsIntoNothing s w

-- A stray word of a Normal object of the closure of these births stands on the page.
pub record HasStray (s : Heap) (births : ℕ → Type 0) (page : ℕ) : Type 0 where
  pub base : ℕ
  pub object : Object
  pub has : HasObject s base object
  pub normal : object.kind ≡ Normal
  pub reached : Closure s births base
  pub index : ℕ
  pub inside : index < length object.words
  pub on : page_of (base + WORD_BYTES * index) ≡ page
  pub stray : IsStray s (slice_index object.words index)
