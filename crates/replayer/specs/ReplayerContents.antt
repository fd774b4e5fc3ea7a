-- What a replayer has, and which run it follows.
use Rattle.std.specs.Prelude.{◌≡◌, ◌↔◌, ℕ, ◌≤◌, Bool, true, List}
use Rattle.heap_spec.specs.Heap.{Object, HasObject}
use Rattle.heap_spec.specs.Runs.{Start, Run, Touched, heap_after, is_marking, needs_full, old_births, count}
use Rattle.plain_heap.specs.PlainContents.{PlainContents}
use Rattle.plain_heap.specs.Standing.{StandsFor}
use Rattle.plain_heap.specs.Flags.{IsFlagged, HasFlags}
use Rattle.plain_heap.specs.Aging.{TellOld}

-- A replayer: a plain heap, whether a cycle is marking and whether a full one is needed, the count of collections, how many
-- objects were born, and the flags of the touched objects and of the old ones.
pub record ReplayerContents : Type 0 where
  pub heap : PlainContents
  pub marking : Bool
  pub needs_full : Bool
  pub number : ℕ
  pub births : ℕ
  pub touched : List Bool
  pub aged : List Bool

-- exactly the touched objects have their flags, in a heap that begins at the origin
abbrev pub TellTouched : ℕ → List Bool → Start → Run → Type 0
TellTouched origin flags start run = (base : ℕ) (o : Object) → HasObject (heap_after start run) base o → IsFlagged origin flags base ↔ Touched start run o.birth

-- The replayer is where the run has led: its plain heap stands for the heap after it, in its phase, with its need of a full cycle
-- and with its counts, its flags tell which objects are old and, while a cycle marks, which are touched.
pub record Follows (r : ReplayerContents) (start : Start) (run : Run) : Type 0 where
  pub stands : StandsFor r.heap (heap_after start run)
  pub phase : r.marking ≡ is_marking start run
  pub needs : r.needs_full ≡ needs_full start run
  pub number : r.number ≡ count start run
  pub births : r.births ≡ (heap_after start run).births
  pub room : HasFlags (heap_after start run).pages r.touched
  pub touched : r.marking ≡ true → TellTouched r.heap.origin r.touched start run
  pub aged_room : HasFlags (heap_after start run).pages r.aged
  pub past : old_births start run ≤ (heap_after start run).births
  pub aged : TellOld r.heap.origin (heap_after start run) r.aged (old_births start run)
