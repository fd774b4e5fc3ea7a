-- Which links of a heap a row has: it has bases where the heap has births.
use Rattle.std.specs.Prelude.{◌≡◌, ◌%◌, ℕ, Option, Some, List, [], ◌∷◌, length}
use Rattle.words.specs.declared.limits.TheConstants.{WORD_BYTES}
use Rattle.heap_spec.specs.Layout.{PointsInto}
use Rattle.heap_spec.specs.Heap.{Object, Link as HeapLink}
use Rattle.links.specs.declared.row.Link.{Link}

-- The link of the row is that of a heap with these objects: it stands at the same address, which is that of a word of an
-- object, and its base is that of the object which the heap's link names.
pub record IsNamed (objects : ℕ → Option Object) (l : Link) (h : HeapLink) : Type 0 where
  pub address : h.address ≡ l.address
  pub aligned : l.address % WORD_BYTES ≡ 0
  pub holder_base : ℕ
  pub holder : Object
  pub held : objects holder_base ≡ Some holder
  pub in_holder : PointsInto l.address holder_base (length holder.words)
  pub object : Object
  pub has : objects l.base ≡ Some object
  pub names : object.birth ≡ h.birth

-- The links of the row are those of the heap, one by one.
pub data AreNamed (objects : ℕ → Option Object) : List Link → List HeapLink → Type 0 where
  none : AreNamed objects [] []
  more : {l : Link} {h : HeapLink} {row : List Link} {links : List HeapLink} → IsNamed objects l h → AreNamed objects row links → AreNamed objects (l ∷ row) (h ∷ links)
