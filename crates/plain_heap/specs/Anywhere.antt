-- Heaps that begin at an address of their own, `origin`, and place objects anywhere: what a request may answer there. All other
-- calls are those of heaps with size classes.
use Rattle.std.specs.Prelude.{◌≡◌, ℕ, ◌+◌, ◌*◌, ◌%◌, ◌<◌, ◌≤◌, Some, None, length, replicate}
use Rattle.words.specs.declared.class.Kind.{Kind}
use Rattle.words.specs.declared.limits.TheConstants.{WORD_BYTES}
use Rattle.words.specs.declared.refusal.Refusal.TheVariants.{NoSlot, BadSize, Full}
use Rattle.words.specs.Placing.{placement_of}
use Rattle.heap_spec.specs.declared.reply.Reply.{Reply}
use Rattle.heap_spec.specs.declared.reply.Reply.TheVariants.{Done, Refused}
use Rattle.heap_spec.specs.Layout.{PointsInto}
use Rattle.heap_spec.specs.Heap.{Heap, Object, Mutator, HasObject, IsAttached, IsVacant}
use Rattle.heap_spec.specs.Steps.{with_object, with_register}
use Rattle.plain_heap.specs.PlainContents.{end_of}

-- An object of so many words has room at an address that is a multiple of 8, if it lies in the heap there, and no object has a
-- byte of it.
pub record HasRoomAnywhere (s : Heap) (origin n a : ℕ) : Type 0 where
  pub start : origin ≤ a
  pub aligned : a % WORD_BYTES ≡ 0
  pub some : 0 < n
  pub ends : a + WORD_BYTES * n ≤ end_of origin s.pages
  pub free : (base w : ℕ) (o : Object) → HasObject s base o → PointsInto w a n → PointsInto w base (length o.words) → ⊥

-- the heap with one object more, the next to be born, of so many words of 0
abbrev pub with_words : Heap → ℕ → Kind → ℕ → Heap
with_words s base kind n = record (with_object s base (Some (record { birth = s.births + 1; kind = kind; words = replicate n 0 }))) { births = s.births + 1 }

-- What a request of the mutator m, attached at the slot, may answer, and the heap after it. It is granted by an object of at
-- least so many words where that has room; refused for its size, if it has no size class; and with Full at any time.
pub data Grants (s : Heap) (origin slot : ℕ) (m : Mutator) (into words : ℕ) (kind : Kind) : Reply → Heap → Type 0 where
  bad_size : placement_of s.request_words words ≡ None → Grants s origin slot m into words kind (Refused BadSize) s
  full : Grants s origin slot m into words kind (Refused Full) s
  granted : (a n : ℕ) → words ≤ n → HasRoomAnywhere s origin n a → Grants s origin slot m into words kind Done (with_register (with_words s a kind n) slot m into a)

-- A request for a slot: the attached mutator's, and refused exactly if the slot is vacant.
pub data Requests (s : Heap) (origin slot into words : ℕ) (kind : Kind) : Reply → Heap → Type 0 where
  by : {m : Mutator} {reply : Reply} {s' : Heap} → IsAttached s slot m → Grants s origin slot m into words kind reply s' → Requests s origin slot into words kind reply s'
  vacant : IsVacant s slot → Requests s origin slot into words kind (Refused NoSlot) s
