-- The core as a sequential object: the states that it stands for, and who may ask it for what.
use Rattle.std.specs.Prelude.{◌≡◌, ℕ, ◌<◌, true, false}
use Rattle.words.specs.declared.limits.TheConstants.{SLOTS}
use Rattle.heap_spec.specs.declared.event.Event.{Event}
use Rattle.heap_spec.specs.declared.event.Event.TheVariants.{Attach, Mutator, Begin, BeginPartial, Roots, Mark, Retrace, Finish, Sweep, Collect, Number}
use Rattle.heap_spec.specs.Heap.{Mutator as HeapMutator}
use Rattle.heap_spec.specs.Runs.{opening_start}
use Rattle.heap_spec.specs.SequentialObject.{HeapState}
use Rattle.roots.specs.Roots.{HasMutator, IsNextSlot}
use Rattle.heap_core.specs.CoreContents.{CoreContents}
use Rattle.heap_core.specs.Following.{Follows}

-- The core stands for a state where the state's run from a new heap has led: it has its heap, its phase and its count, needs a
-- full cycle where the run does, and its marks are those that the run allows.
abbrev pub Stands : CoreContents → HeapState → Type 0
Stands c state = Follows c (opening_start state.pages) state.run

-- The same of a core as `IsCaller` of a heap: the slot is the caller's own, and a mutator is attached there.
pub record HasCaller (c : CoreContents) (who slot : ℕ) : Type 0 where
  pub range : who < SLOTS
  pub own : who ≡ slot
  pub mutator : HeapMutator
  pub attached : HasMutator c.roots who mutator

-- When an event may be asked for, and by whom: those that are in a history, and where the phase grants them.
abbrev pub Can : CoreContents → ℕ → Event → Type 0
Can c who Attach = (who < SLOTS) × IsNextSlot c.roots who
Can c who (Mutator slot call) = HasCaller c who slot
Can c who Begin = (who ≡ SLOTS) × (c.cycle.is_marking ≡ false)
Can c who BeginPartial = (who ≡ SLOTS) × (c.cycle.is_marking ≡ false) × (c.cycle.needs_full ≡ false)
Can c who Roots = ⊥
Can c who (Mark n) = ⊥
Can c who Retrace = ⊥
Can c who Finish = (who ≡ SLOTS) × (c.cycle.is_marking ≡ true)
Can c who Sweep = ⊥
Can c who Collect = who ≡ SLOTS
Can c who Number = ⊥
