-- What is reached.
use Rattle.std.specs.Prelude.{◌≡◌, ℕ, Contains}
use Rattle.words.specs.declared.class.Kind.TheVariants.{Normal}
use Rattle.heap_spec.specs.Heap.{Heap, Object, HasObject, PointsIntoObject, root_words}

-- The closure of some births: the least set of bases that holds the objects of those births, each object that a root
-- word points into, and with each Normal object every object that one of its words points into.
pub data Closure (s : Heap) (births : ℕ → Type 0) : ℕ → Type 0 where
  given : {base : ℕ} {o : Object} → HasObject s base o → births o.birth → Closure s births base
  root : {w base : ℕ} {o : Object} → Contains (root_words s) w → PointsIntoObject s w base o → Closure s births base
  word : {from w base : ℕ} {p o : Object} → Closure s births from → HasObject s from p → p.kind ≡ Normal → Contains p.words w → PointsIntoObject s w base o → Closure s births base

-- An object is reached if roots lead to it: it is in the closure of the empty set of births.
abbrev pub Reached : Heap → ℕ → Type 0
Reached s = Closure s (λ _. ⊥)

-- the object of this birth is in the closure of the births
abbrev pub IsInClosure : Heap → (ℕ → Type 0) → ℕ → Type 0
IsInClosure s births birth = (base : ℕ) × (o : Object) × HasObject s base o × (o.birth ≡ birth) × Closure s births base

-- the object of this birth is reached
abbrev pub IsReachedBirth : Heap → ℕ → Type 0
IsReachedBirth s = IsInClosure s (λ _. ⊥)
