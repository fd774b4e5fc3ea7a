-- Which root points into an object.
use Rattle.std.specs.Prelude.{◌≡◌, ℕ, Option, Some, List, All, slice_get}
use Rattle.heap_spec.specs.Heap.{Mutator}
use Rattle.heap_spec.specs.Layout.{PointsInto}
use Rattle.roots.specs.Roots.{RootSet}
use Rattle.roots.specs.declared.finding.Root.{Root}
use Rattle.roots.specs.declared.finding.Root.TheVariants.{Register, Stack, Global}

-- the word of this index points into the object with the base and so many words
abbrev pub IsInto : List ℕ → ℕ → ℕ → ℕ → Type 0
IsInto words index base length = (w : ℕ) × (slice_get words index ≡ Some w) × PointsInto w base length

-- no word points into it
abbrev pub AreNotInto : List ℕ → ℕ → ℕ → Type 0
AreNotInto words base length = All (λ w. PointsInto w base length → ⊥) words

-- it is a root of the mutator at this slot, and its word points into the object
abbrev pub MutatorHas : ℕ → Mutator → Root → ℕ → ℕ → Type 0
MutatorHas slot m (Register k r) base length = (k ≡ slot) × IsInto m.registers r base length
MutatorHas slot m (Stack k i) base length = (k ≡ slot) × IsInto m.stack i base length
MutatorHas slot m (Global g) base length = ⊥

-- the same of what is attached at the slot
abbrev pub SlotHas : Option Mutator → ℕ → Root → ℕ → ℕ → Type 0
SlotHas at slot root base length = (m : Mutator) × (at ≡ Some m) × MutatorHas slot m root base length

-- it is a root of a mutator, and its word points into the object
abbrev pub SlotsHave : List (Option Mutator) → Root → ℕ → ℕ → Type 0
SlotsHave mutators (Register slot r) base length = (m : Mutator) × (slice_get mutators slot ≡ Some (Some m)) × IsInto m.registers r base length
SlotsHave mutators (Stack slot i) base length = (m : Mutator) × (slice_get mutators slot ≡ Some (Some m)) × IsInto m.stack i base length
SlotsHave mutators (Global g) base length = ⊥

-- it is one of the roots, and its word points into the object
abbrev pub RootsHave : RootSet → Root → ℕ → ℕ → Type 0
RootsHave roots (Register slot r) base length = SlotsHave roots.mutators (Register slot r) base length
RootsHave roots (Stack slot i) base length = SlotsHave roots.mutators (Stack slot i) base length
RootsHave roots (Global g) base length = IsInto roots.globals g base length
