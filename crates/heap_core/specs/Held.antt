-- A word of an object that a register of a mutator holds, and what a client knows of it by the core's contracts.
use Rattle.std.specs.Prelude.{◌≡◌, ◌≢◌, ℕ, ◌<◌, ◌⊎◌, None, length, slice_index}
use Rattle.words.specs.declared.class.Kind.{Kind}
use Rattle.words.specs.declared.class.Kind.TheVariants.{Normal}
use Rattle.words.specs.declared.refusal.Refusal.{Refusal}
use Rattle.words.specs.declared.refusal.Refusal.TheVariants.{NoSlot, Full}
use Rattle.words.specs.Placing.{placement_of}
use Rattle.pages.specs.Opening.{IsPageCount}
use Rattle.heap_spec.specs.declared.call.Call.TheVariants.{Alloc, Load, Set, Store}
use Rattle.heap_spec.specs.declared.event.Event.{Event}
use Rattle.heap_spec.specs.declared.event.Event.TheVariants.{Attach, Mutator, Begin, BeginPartial, Roots, Mark, Retrace, Finish, Sweep, Collect, Number}
use Rattle.heap_spec.specs.declared.reply.Reply.{Reply}
use Rattle.heap_spec.specs.declared.reply.Reply.TheVariants.{Done, Word, Refused}
use Rattle.heap_spec.specs.Heap.{Heap, Object, Mutator as HeapMutator, HasObject, IsAttached}
use Rattle.heap_spec.specs.Ranges.{CallInRange, IsRegister}
use Rattle.heap_spec.specs.Sound.{IsSound}
use Rattle.heap_spec.specs.Steps.{register}
use Rattle.heap_history.specs.Laws.{LeavesRegister, LeavesWordsCall}
use Rattle.heap_history.specs.OfCalls.{IfCall}
use Rattle.heap_core.specs.Acts.{IsAct}
use Rattle.heap_core.specs.MutatorCalls.{IsCall}
use Rattle.heap_core.specs.CoreContents.{CoreContents}
use Rattle.heap_core.specs.Opening.{IsNew}
use Rattle.heap_core.specs.Standing.{StandsFor}

-- the core stands for a sound heap
abbrev pub IsSoundCore : CoreContents → Type 0
IsSoundCore c = (s : Heap) × StandsFor c s × IsSound s

-- A register of the slot's mutator has the base of a Normal object, in which this word stands at this place.
pub record IsHeldWord (s : Heap) (slot r k w : ℕ) : Type 0 where
  pub mutator : HeapMutator
  pub attached : IsAttached s slot mutator
  pub range : IsRegister r
  pub object : Object
  pub has : HasObject s (register mutator r) object
  pub kind : object.kind ≡ Normal
  pub within : k < length object.words
  pub word : slice_index object.words k ≡ w

-- So it is in a sound heap that the core stands for.
pub record IsHeld (c : CoreContents) (slot r k w : ℕ) : Type 0 where
  pub heap : Heap
  pub stands : StandsFor c heap
  pub sound : IsSound heap
  pub held : IsHeldWord heap slot r k w

-- the registers and words that an event names are ones
abbrev pub NamesInRange : Event → Type 0
NamesInRange event = IfCall CallInRange event

-- The event leaves the words of objects and this register of the slot: it is the collector's, an attach, or a call of any slot that
-- stores and frees nothing and is no change of the register.
abbrev pub LeavesHeld : ℕ → ℕ → Event → Type 0
LeavesHeld slot r Attach = Unit {0}
LeavesHeld slot r (Mutator by call) = LeavesWordsCall call × (by ≡ slot → LeavesRegister r call)
LeavesHeld slot r Begin = Unit {0}
LeavesHeld slot r BeginPartial = Unit {0}
LeavesHeld slot r Roots = Unit {0}
LeavesHeld slot r (Mark n) = Unit {0}
LeavesHeld slot r Retrace = Unit {0}
LeavesHeld slot r Finish = Unit {0}
LeavesHeld slot r Sweep = Unit {0}
LeavesHeld slot r Collect = Unit {0}
LeavesHeld slot r Number = Unit {0}

-- a new core stands for a sound heap
abbrev pub NewIsSound : Type 0
NewIsSound = (pages : ℕ) (c : CoreContents) → IsPageCount pages → IsNew pages c → IsSoundCore c

-- and whatever is called, it still does
abbrev pub ActsKeepSound : Type 0
ActsKeepSound = (old new : CoreContents) (event : Event) (reply : Reply) → IsSoundCore old → NamesInRange event → IsAct old event reply new → IsSoundCore new

-- An allocation of a length that objects may have is refused only where the slot has no mutator, or nowhere is room.
abbrev pub FewAllocationsAreRefused : Type 0
FewAllocationsAreRefused = (old new : CoreContents) (slot r n : ℕ) (kind : Kind) (why : Refusal) → IsSoundCore old → placement_of old.roots.request_words n ≢ None
    → IsCall old (Mutator slot (Alloc r n kind)) (Refused why) new → (why ≡ NoSlot) ⊎ (why ≡ Full)

-- Each word of a Normal object that was granted is held by the register, and is 0.
abbrev pub GrantedWordsAreHeld : Type 0
GrantedWordsAreHeld = (old new : CoreContents) (slot r n k : ℕ) → IsSoundCore old → CallInRange (Alloc r n Normal) → k < n → IsCall old (Mutator slot (Alloc r n Normal)) Done new → IsHeld new slot r k 0

-- Whose register holds a word may set its registers,
abbrev pub HoldersSet : Type 0
HoldersSet = (old new : CoreContents) (reply : Reply) (slot r k v x w : ℕ) → IsHeld old slot r k v → IsCall old (Mutator slot (Set x w)) reply new → reply ≡ Done

-- and store at its place.
abbrev pub HoldersStore : Type 0
HoldersStore = (old new : CoreContents) (reply : Reply) (slot r k v x : ℕ) → IsHeld old slot r k v → IsCall old (Mutator slot (Store r k x)) reply new → reply ≡ Done

-- A word that was set in another register and stored at its place is held there.
abbrev pub StoredWordIsHeld : Type 0
StoredWordIsHeld = (old mid new : CoreContents) (slot r k x v w : ℕ) → IsHeld old slot r k v → CallInRange (Set x w) → CallInRange (Store r k x) → r ≢ x
    → IsCall old (Mutator slot (Set x w)) Done mid → IsCall mid (Mutator slot (Store r k x)) Done new → IsHeld new slot r k w

-- A held word stays, whatever cycles begin, go on and end, and whatever mutators do that store and free nothing, while the register is left.
abbrev pub HeldWordStays : Type 0
HeldWordStays = (old new : CoreContents) (event : Event) (reply : Reply) (slot r k w : ℕ) → IsHeld old slot r k w → NamesInRange event → LeavesHeld slot r event → IsAct old event reply new → IsHeld new slot r k w

-- A load from its place answers it, and is never refused.
abbrev pub HeldWordIsLoaded : Type 0
HeldWordIsLoaded = (old new : CoreContents) (reply : Reply) (slot d r k w : ℕ) → IsHeld old slot r k w → IsCall old (Mutator slot (Load d r k)) reply new → reply ≡ Word w
