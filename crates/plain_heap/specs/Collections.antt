-- What collections do to a plain heap.
use Rattle.std.specs.Prelude.{◌≡◌, ℕ, Bool, true, List, length, Contains}
use Rattle.heap_spec.specs.declared.reply.Reply.TheVariants.{Count}
use Rattle.heap_spec.specs.Heap.{Heap, Object, HasObject}
use Rattle.heap_spec.specs.Closure.{Reached}
use Rattle.heap_spec.specs.Cycles.{TakesOut, CollectsFully}
use Rattle.plain_heap.specs.PlainContents.{PlainContents}
use Rattle.plain_heap.specs.Standing.{StandsFor}

-- Of each heap that the plain heap stood for exactly the objects that are not reached are gone, so many.
abbrev pub IsCollected : PlainContents → ℕ → PlainContents → Type 0
IsCollected old count new = (s : Heap) → StandsFor old s → (s' : Heap) × CollectsFully s (Count count) s' × StandsFor new s'

-- Of each heap that the plain heap stands for so many objects are not reached.
abbrev pub HasGarbage : PlainContents → ℕ → Type 0
HasGarbage c count = (s : Heap) → StandsFor c s → (s' : Heap) × CollectsFully s (Count count) s'

-- of no heap that the plain heap stands for a full collection takes so many
abbrev pub CantCollect : PlainContents → ℕ → Type 0
CantCollect c count = (s : Heap) → StandsFor c s → (s' : Heap) → CollectsFully s (Count count) s' → ⊥

-- every object that is not reached is among these
abbrev pub HasUnreached : Heap → List ℕ → Type 0
HasUnreached s bases = (base : ℕ) (o : Object) → HasObject s base o → (Reached s base → ⊥) → Contains bases base

-- Of each heap that the plain heap stood for the objects with these bases are gone, none of which is reached: if they had to be
-- all such objects, they are.
abbrev pub TakesBases : PlainContents → List ℕ → Bool → PlainContents → Type 0
TakesBases old bases all new = (s : Heap) → StandsFor old s → (s' : Heap) × TakesOut s bases (Count (length bases)) s' × (all ≡ true → HasUnreached s bases) × StandsFor new s'

-- Of no heap that the plain heap stands for these can be taken out: they are not the bases of distinct objects, or one is
-- reached, or they had to be all that are not reached, and are not.
abbrev pub CantTake : PlainContents → List ℕ → Bool → Type 0
CantTake c bases all = (s : Heap) → StandsFor c s → (n : ℕ) (s' : Heap) → TakesOut s bases (Count n) s' → (all ≡ true → HasUnreached s bases) → ⊥
