-- The step of every mutator call.
use Rattle.std.specs.Prelude.{◌≡◌, ◌≢◌, ℕ, ◌+◌, ◌-◌, ◌*◌, ◌%◌, ◌<◌, Option, Some, None, ◌==◌, not, Bool, ◌≤◌, true, false, ◌⊎◌, if◌then◌else◌, List, [], ◌∷◌, ◌++◌, length, replicate, slice_index, slice_set, filter}
use Rattle.std.specs.List.{list_any}
use Rattle.words.specs.declared.limits.TheConstants.{WORD_BYTES, REGISTERS, STACK_WORDS, MAX_LINKS}
use Rattle.words.specs.declared.class.Kind.{Kind}
use Rattle.words.specs.declared.class.Kind.TheVariants.{Normal, PointerFree}
use Rattle.words.specs.declared.class.Placement.{Placement}
use Rattle.words.specs.declared.refusal.Refusal.TheVariants.{NoSlot, Misaligned, NoObject, NotBase, BadSize, Full, StackFull, StackEmpty, LinksFull, NotPointerFree}
use Rattle.words.specs.Placing.{placement_of}
use Rattle.heap_spec.specs.declared.call.Call.{Call}
use Rattle.heap_spec.specs.declared.call.Call.TheVariants.{Detach, Set, Copy, Add, Sub, Get, Push, Pop, Load, Store, Alloc, Free, Base, Size, GlobalGet, GlobalPut, Link, Unlink}
use Rattle.heap_spec.specs.declared.event.Event.{Event}
use Rattle.heap_spec.specs.declared.event.Event.TheVariants.{Attach, Mutator, Begin, BeginPartial, Roots, Mark, Retrace, Finish, Sweep, Collect, Number}
use Rattle.heap_spec.specs.declared.reply.Reply.{Reply}
use Rattle.heap_spec.specs.declared.reply.Reply.TheVariants.{Slot, Done, Word, Count, Refused}
use Rattle.heap_spec.specs.Layout.{word_end, index_in}
use Rattle.heap_spec.specs.Heap.{Heap, Object, Link as HeapLink, Mutator as HeapMutator, HasObject, IsAttached, IsVacant, PointsIntoObject, PointsIntoNothing, with_at, without}
use Rattle.heap_spec.specs.Room.{HasRoom, length_of}

-- A mutator comes with registers of 0 and an empty stack.
abbrev pub newcomer : HeapMutator
newcomer = record { registers = replicate REGISTERS 0; stack = [] }

-- the heap with this at the slot
abbrev pub with_mutator : Heap → ℕ → Option HeapMutator → Heap
with_mutator s slot m = record s { mutators = slice_set s.mutators slot m }

-- the heap with this word in the slot's register
abbrev pub with_register : Heap → ℕ → HeapMutator → ℕ → ℕ → Heap
with_register s slot m r w = with_mutator s slot (Some (record m { registers = slice_set m.registers r w }))

-- the heap with this, or no object, at the base
abbrev pub with_object : Heap → ℕ → Option Object → Heap
with_object s base o = record s { objects = with_at s.objects base o }

-- the heap with one object more, the next to be born, whose words are 0
abbrev pub with_new : Heap → ℕ → Kind → Placement → Heap
with_new s base kind placement =
    record (with_object s base (Some (record { birth = s.births + 1; kind = kind; words = replicate (length_of placement) 0 }))) { births = s.births + 1 }

-- whether a link stands at the address
abbrev pub has_link : Heap → ℕ → Bool
has_link s a = list_any (λ l. l.address == a) s.links

-- the links but for one at the address
abbrev pub links_but : Heap → ℕ → List HeapLink
links_but s a = filter (λ l. not (l.address == a)) s.links

-- the heap with no link at the address
abbrev pub without_link : Heap → ℕ → Heap
without_link s a = record s { links = links_but s a }

-- the heap with a link at the address, in place of one that stands there
abbrev pub with_link : Heap → ℕ → ℕ → Heap
with_link s a birth = record s { links = links_but s a ++ record { address = a; birth = birth } ∷ [] }

-- there is room for a link at the address: fewer stand than there is room for, or one stands there
abbrev pub HasLinkRoom : Heap → ℕ → Type 0
HasLinkRoom s a = (length s.links < MAX_LINKS) ⊎ (has_link s a ≡ true)

-- the word of a register
abbrev pub register : HeapMutator → ℕ → ℕ
register m r = slice_index m.registers r

-- the address that a load or a store goes to
abbrev pub address : HeapMutator → ℕ → ℕ → ℕ
address m r offset = (register m r + WORD_BYTES * offset) % word_end

-- the lowest slot with no mutator
abbrev pub IsLowestVacant : Heap → ℕ → Type 0
IsLowestVacant s slot = IsVacant s slot × ((k : ℕ) → k < slot → IsVacant s k → ⊥)

-- A mutator comes: the lowest vacant slot becomes its own, and it is refused exactly if none is vacant.
pub data Attaches (s : Heap) : Reply → Heap → Type 0 where
  attached : {slot : ℕ} → IsLowestVacant s slot → Attaches s (Slot slot) (with_mutator s slot (Some newcomer))
  no_slot : ((k : ℕ) → IsVacant s k → ⊥) → Attaches s (Refused NoSlot) s

-- What a call of the mutator m, attached at the slot, may answer, and the heap after it: one constructor an outcome, and the
-- outcomes of one call together. A refused call leaves the heap as it is, and a call that meets several refusals answers the
-- first in the order of its lines.
pub data Acts (s : Heap) (slot : ℕ) (m : HeapMutator) : Call → Reply → Heap → Type 0 where
  -- the slot
  detached : Acts s slot m Detach Done (with_mutator s slot None)
  -- registers
  set : {r w : ℕ} → Acts s slot m (Set r w) Done (with_register s slot m r w)
  copied : {d a : ℕ} → Acts s slot m (Copy d a) Done (with_register s slot m d (register m a))
  added : {d a n : ℕ} → Acts s slot m (Add d a n) Done (with_register s slot m d ((register m a + n) % word_end))
  subtracted : {d a b : ℕ} → Acts s slot m (Sub d a b) Done (with_register s slot m d ((register m a + word_end - register m b) % word_end))
  got : {r : ℕ} → Acts s slot m (Get r) (Word (register m r)) s
  -- the stack
  push_full : {r : ℕ} → length m.stack ≡ STACK_WORDS → Acts s slot m (Push r) (Refused StackFull) s
  pushed : {r : ℕ} → length m.stack < STACK_WORDS
      → Acts s slot m (Push r) Done (with_mutator s slot (Some (record m { stack = m.stack ++ register m r ∷ [] })))
  pop_empty : {r : ℕ} → m.stack ≡ [] → Acts s slot m (Pop r) (Refused StackEmpty) s
  popped : {r w : ℕ} (rest : List ℕ) → m.stack ≡ rest ++ w ∷ [] → Acts s slot m (Pop r) (Word w) (with_register s slot (record m { stack = rest }) r w)
  -- a word of an object
  load_misaligned : {d a n : ℕ} → address m a n % WORD_BYTES ≢ 0 → Acts s slot m (Load d a n) (Refused Misaligned) s
  load_nothing : {d a n : ℕ} → address m a n % WORD_BYTES ≡ 0 → PointsIntoNothing s (address m a n) → Acts s slot m (Load d a n) (Refused NoObject) s
  loaded : {d a n base : ℕ} {o : Object} → address m a n % WORD_BYTES ≡ 0 → PointsIntoObject s (address m a n) base o
      → Acts s slot m (Load d a n) (Word (slice_index o.words (index_in base (address m a n))))
      (with_register s slot m d (slice_index o.words (index_in base (address m a n))))
  store_misaligned : {a n r : ℕ} → address m a n % WORD_BYTES ≢ 0 → Acts s slot m (Store a n r) (Refused Misaligned) s
  store_nothing : {a n r : ℕ} → address m a n % WORD_BYTES ≡ 0 → PointsIntoNothing s (address m a n) → Acts s slot m (Store a n r) (Refused NoObject) s
  stored : {a n r base : ℕ} {o : Object} → address m a n % WORD_BYTES ≡ 0 → PointsIntoObject s (address m a n) base o
      → Acts s slot m (Store a n r) Done
      (with_object s base (Some (record o { words = slice_set o.words (index_in base (address m a n)) (register m r) })))
  -- objects
  bad_size : {d n : ℕ} {kind : Kind} → placement_of s.request_words n ≡ None → Acts s slot m (Alloc d n kind) (Refused BadSize) s
  full : {d n : ℕ} {kind : Kind} {placement : Placement} → placement_of s.request_words n ≡ Some placement → ((a : ℕ) → HasRoom s placement kind a → ⊥)
      → Acts s slot m (Alloc d n kind) (Refused Full) s
  allocated : {d n : ℕ} {kind : Kind} {placement : Placement} (a : ℕ) → placement_of s.request_words n ≡ Some placement → HasRoom s placement kind a
      → Acts s slot m (Alloc d n kind) Done (with_register (with_new s a kind placement) slot m d a)
  free_nothing : {r : ℕ} → PointsIntoNothing s (register m r) → Acts s slot m (Free r) (Refused NoObject) s
  free_inside : {r base : ℕ} {o : Object} → PointsIntoObject s (register m r) base o → base ≢ register m r → Acts s slot m (Free r) (Refused NotBase) s
  freed : {r : ℕ} {o : Object} → HasObject s (register m r) o → Acts s slot m (Free r) Done (without s (register m r ∷ []))
  -- what a word points into
  base_nothing : {d a : ℕ} → PointsIntoNothing s (register m a) → Acts s slot m (Base d a) (Refused NoObject) s
  based : {d a base : ℕ} {o : Object} → PointsIntoObject s (register m a) base o → Acts s slot m (Base d a) (Word base) (with_register s slot m d base)
  size_nothing : {r : ℕ} → PointsIntoNothing s (register m r) → Acts s slot m (Size r) (Refused NoObject) s
  sized : {r base : ℕ} {o : Object} → PointsIntoObject s (register m r) base o → Acts s slot m (Size r) (Count (length o.words)) s
  -- globals
  global_got : {d g : ℕ} → Acts s slot m (GlobalGet d g) (Word (slice_index s.globals g)) (with_register s slot m d (slice_index s.globals g))
  global_put : {g r : ℕ} → Acts s slot m (GlobalPut g r) Done (record s { globals = slice_set s.globals g (register m r) })
  -- links
  link_misaligned : {a n r : ℕ} → address m a n % WORD_BYTES ≢ 0 → Acts s slot m (Link a n r) (Refused Misaligned) s
  link_nowhere : {a n r : ℕ} → address m a n % WORD_BYTES ≡ 0 → PointsIntoNothing s (address m a n) → Acts s slot m (Link a n r) (Refused NoObject) s
  link_in_normal : {a n r base : ℕ} {o : Object} → address m a n % WORD_BYTES ≡ 0 → PointsIntoObject s (address m a n) base o → o.kind ≡ Normal
      → Acts s slot m (Link a n r) (Refused NotPointerFree) s
  link_to_nothing : {a n r base : ℕ} {o : Object} → address m a n % WORD_BYTES ≡ 0 → PointsIntoObject s (address m a n) base o → o.kind ≡ PointerFree
      → PointsIntoNothing s (register m r) → Acts s slot m (Link a n r) (Refused NoObject) s
  links_full : {a n r base named : ℕ} {o p : Object} → address m a n % WORD_BYTES ≡ 0 → PointsIntoObject s (address m a n) base o → o.kind ≡ PointerFree
      → PointsIntoObject s (register m r) named p → MAX_LINKS ≤ length s.links → has_link s (address m a n) ≡ false → Acts s slot m (Link a n r) (Refused LinksFull) s
  linked : {a n r base named : ℕ} {o p : Object} → address m a n % WORD_BYTES ≡ 0 → PointsIntoObject s (address m a n) base o → o.kind ≡ PointerFree
      → PointsIntoObject s (register m r) named p → HasLinkRoom s (address m a n) → Acts s slot m (Link a n r) Done (with_link s (address m a n) p.birth)
  unlinked : {a n : ℕ} → Acts s slot m (Unlink a n) (Count (if has_link s (address m a n) then 1 else 0)) (without_link s (address m a n))

-- A call for a slot: the attached mutator's, and refused exactly if the slot is vacant.
pub data Calls (s : Heap) (slot : ℕ) (call : Call) : Reply → Heap → Type 0 where
  acts : {m : HeapMutator} {reply : Reply} {s' : Heap} → IsAttached s slot m → Acts s slot m call reply s' → Calls s slot call reply s'
  vacant : IsVacant s slot → Calls s slot call (Refused NoSlot) s

-- A step of the heap: the call that an event is, with its reply and the heap after it. Only calls of mutators are steps.
abbrev pub Step : Heap → Event → Reply → Heap → Type 0
Step s Attach reply s' = Attaches s reply s'
Step s (Mutator slot call) reply s' = Calls s slot call reply s'
Step s Begin reply s' = ⊥
Step s BeginPartial reply s' = ⊥
Step s Roots reply s' = ⊥
Step s (Mark n) reply s' = ⊥
Step s Retrace reply s' = ⊥
Step s Finish reply s' = ⊥
Step s Sweep reply s' = ⊥
Step s Collect reply s' = ⊥
Step s Number reply s' = ⊥
