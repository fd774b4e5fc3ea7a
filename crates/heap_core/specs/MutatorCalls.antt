-- What calls of mutators do to a core.
use Rattle.std.specs.Prelude.{◌≡◌, ◌↔◌, ℕ, ◌⊎◌, Some, None, true, false}
use Rattle.words.specs.declared.class.Kind.{Kind}
use Rattle.words.specs.declared.class.Placement.{Placement}
use Rattle.words.specs.declared.refusal.Refusal.TheVariants.{Full}
use Rattle.words.specs.Bits.{Has}
use Rattle.words.specs.Layout.{page_of}
use Rattle.words.specs.Placing.{placement_of}
use Rattle.heap_spec.specs.declared.call.Call.{Call}
use Rattle.heap_spec.specs.declared.call.Call.TheVariants.{Store, Alloc, Free}
use Rattle.heap_spec.specs.declared.event.Event.{Event}
use Rattle.heap_spec.specs.declared.event.Event.TheVariants.{Attach, Mutator, Begin, BeginPartial, Roots, Mark, Retrace, Finish, Sweep, Collect, Number}
use Rattle.heap_spec.specs.declared.reply.Reply.{Reply}
use Rattle.heap_spec.specs.declared.reply.Reply.TheVariants.{Done, Refused}
use Rattle.heap_spec.specs.Heap.{Mutator as HeapMutator}
use Rattle.heap_spec.specs.Replies.{IsStep}
use Rattle.heap_spec.specs.Steps.{address, register}
use Rattle.pages.specs.Memory.{with_word_at}
use Rattle.block_map.specs.declared.found.Found.{Found}
use Rattle.marker.specs.Marking.{IsMarked}
use Rattle.roots.specs.Roots.{HasMutator}
use Rattle.object_space.specs.Many.{HasNoneReady, LeavesPages}
use Rattle.object_space.specs.Store.{IsSwept}
use Rattle.heap_core.specs.CoreContents.{CoreContents}
use Rattle.heap_core.specs.Standing.{StandsFor, IsForgotten, objects_of}

-- the page that an event with this reply makes dirty: that of a store that was done
pub data MakesDirty (c : CoreContents) : Event → Reply → ℕ → Type 0 where
  store : {slot a n r p : ℕ} (m : HeapMutator) → HasMutator c.roots slot m → p ≡ page_of (address m a n) → MakesDirty c (Mutator slot (Store a n r)) Done p

-- the event with this reply is a store that was done, of this word at this address
pub data StoresAt (c : CoreContents) : Event → Reply → ℕ → ℕ → Type 0 where
  store : {slot a n r at w : ℕ} (m : HeapMutator) → HasMutator c.roots slot m → at ≡ address m a n → w ≡ register m r → StoresAt c (Mutator slot (Store a n r)) Done at w

-- the call with this reply reaches the pages: a store, an allocation or a free that was done, or an allocation with no place
abbrev pub CallReachesPages : Call → Reply → Type 0
CallReachesPages (Store a n r) Done = Unit {0}
CallReachesPages (Alloc d n kind) Done = Unit {0}
CallReachesPages (Alloc d n kind) (Refused Full) = Unit {0}
CallReachesPages (Free r) Done = Unit {0}
CallReachesPages _ _ = ⊥

-- the event with this reply does
abbrev pub ReachesPages : Event → Reply → Type 0
ReachesPages Attach reply = ⊥
ReachesPages (Mutator slot call) reply = CallReachesPages call reply
ReachesPages Begin reply = ⊥
ReachesPages BeginPartial reply = ⊥
ReachesPages Roots reply = ⊥
ReachesPages (Mark n) reply = ⊥
ReachesPages Retrace reply = ⊥
ReachesPages Finish reply = ⊥
ReachesPages Sweep reply = ⊥
ReachesPages Collect reply = ⊥
ReachesPages Number reply = ⊥

-- the event with this reply is an allocation for which there was no place
pub data IsFullAlloc : Event → Reply → Type 0 where
  full : {slot d n : ℕ} {kind : Kind} → IsFullAlloc (Mutator slot (Alloc d n kind)) (Refused Full)

-- the event with this reply is an allocation that was done, of such a place and kind
pub data IsAllocation (c : CoreContents) : Event → Reply → Placement → Kind → Type 0 where
  allocation : {slot d n : ℕ} {placement : Placement} {kind : Kind} → placement_of c.roots.request_words n ≡ Some placement → IsAllocation c (Mutator slot (Alloc d n kind)) Done placement kind

-- the event with this reply is a free that was done
pub data Frees : Event → Reply → Type 0 where
  freed : {slot r : ℕ} → Frees (Mutator slot (Free r)) Done

-- a page that a call of the slot may sweep: an allocation any, as it needs, and a free that of its object, which may become free
abbrev pub CallMaySweep : CoreContents → ℕ → Call → ℕ → Type 0
CallMaySweep c slot (Alloc d n kind) p = Unit {0}
CallMaySweep c slot (Free r) p = (m : HeapMutator) × HasMutator c.roots slot m × (f : Found) × (objects_of c (register m r) ≡ Some f) × (p ≡ f.page)
CallMaySweep c slot _ p = ⊥

-- a page that an event may sweep
abbrev pub MaySweep : CoreContents → Event → ℕ → Type 0
MaySweep c Attach p = ⊥
MaySweep c (Mutator slot call) p = CallMaySweep c slot call p
MaySweep c Begin p = ⊥
MaySweep c BeginPartial p = ⊥
MaySweep c Roots p = ⊥
MaySweep c (Mark n) p = ⊥
MaySweep c Retrace p = ⊥
MaySweep c Finish p = ⊥
MaySweep c Sweep p = ⊥
MaySweep c Collect p = ⊥
MaySweep c Number p = ⊥

-- A call of a mutator is a step of the heap. It leaves the phase, the count and the reads as they are, and the work of the marker too,
-- but for its own part of it: no object that is there before and after is newly marked or loses its mark, an object that
-- comes while a cycle is marking is marked, and while none is what is marked was there and was marked. Of the pages exactly
-- the one that it has stored to becomes dirty. Exactly a free that was done makes that a full cycle is needed. No page
-- becomes pending, few calls sweep, and an allocation for which there was no place has left none pending. The forgotten
-- objects are those of before whose pages are still pending. An allocation takes free pages, or sweeps others, only where no
-- page of its class and kind has a free cell and needs no sweep: else the free pages and the pending ones stay. A store writes its
-- word, and changes nothing else of the store. Unless it reaches the pages a call changes nothing but the roots.
pub record IsCall (old : CoreContents) (event : Event) (reply : Reply) (new : CoreContents) : Type 0 where
  pub steps : IsStep (StandsFor old) event reply (StandsFor new)
  pub phase : new.cycle.is_marking ≡ old.cycle.is_marking
  pub count : new.cycle.count ≡ old.cycle.count
  pub reads : new.cycle.reads ≡ old.cycle.reads
  pub freed : Frees event reply → new.cycle.needs_full ≡ true
  pub needs_full : (Frees event reply → ⊥) → new.cycle.needs_full ≡ old.cycle.needs_full
  pub marks : (f : Found) → objects_of new f.base ≡ Some f → IsMarked new.cycle.marker f.base → IsMarked old.cycle.marker f.base ⊎ (objects_of old f.base ≡ None)
  pub stays : (f : Found) → objects_of new f.base ≡ Some f → IsMarked old.cycle.marker f.base → IsMarked new.cycle.marker f.base
  pub came : old.cycle.is_marking ≡ true → (f : Found) → objects_of new f.base ≡ Some f → objects_of old f.base ≡ None → IsMarked new.cycle.marker f.base
  pub idle : old.cycle.is_marking ≡ false → (f : Found) → objects_of new f.base ≡ Some f → IsMarked new.cycle.marker f.base → (objects_of old f.base ≡ Some f) × IsMarked old.cycle.marker f.base
  pub dirty : (p : ℕ) → Has new.cycle.marker.dirty p → Has old.cycle.marker.dirty p ⊎ MakesDirty old event reply p
  pub written : (p : ℕ) → MakesDirty old event reply p → Has new.cycle.marker.dirty p
  pub stays_dirty : (p : ℕ) → Has old.cycle.marker.dirty p → Has new.cycle.marker.dirty p
  pub carried : new.cycle.marker.carried ≡ old.cycle.marker.carried
  pub current : new.cycle.marker.current ≡ old.cycle.marker.current
  pub stack : new.cycle.marker.stack ≡ old.cycle.marker.stack
  pub fewer : (p : ℕ) → Has new.store.pending p → Has old.store.pending p
  pub swept : (p : ℕ) → Has old.store.pending p → Has new.store.pending p ⊎ MaySweep old event p
  pub forgotten : (w : ℕ) (f : Found) → IsForgotten new w f ↔ (IsForgotten old w f × Has new.store.pending f.page)
  pub full : IsFullAlloc event reply → IsSwept new.store
  pub cuts : (placement : Placement) (kind : Kind) → IsAllocation old event reply placement kind → HasNoneReady old.store placement kind ⊎ LeavesPages old.store new.store
  pub stored : (at w : ℕ) → StoresAt old event reply at w → new.store ≡ record old.store { words = with_word_at old.store.words at w }
  pub roots_alone : (ReachesPages event reply → ⊥) → (new.store ≡ old.store) × (new.cycle ≡ old.cycle)
