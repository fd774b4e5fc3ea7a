-- What calls of mutators may be answered, before they are made.
use Rattle.std.specs.Prelude.{◌≡◌, ◌<◌, ℕ, length, slice_index}
use Rattle.words.specs.declared.class.Kind.{Kind}
use Rattle.words.specs.declared.limits.TheConstants.{FIRST_ADDRESS}
use Rattle.heap_spec.specs.declared.call.Call.{Call}
use Rattle.heap_spec.specs.declared.call.Call.TheVariants.{Alloc}
use Rattle.heap_spec.specs.declared.event.Event.{Event}
use Rattle.heap_spec.specs.declared.reply.Reply.{Reply}
use Rattle.heap_spec.specs.declared.reply.Reply.TheVariants.{Done}
use Rattle.heap_spec.specs.Layout.{PointsInto, index_in}
use Rattle.heap_spec.specs.Heap.{Heap, Object, Mutator, HasObject, PointsIntoObject, PointsIntoNothing}
use Rattle.heap_spec.specs.Sound.{IsSound}
use Rattle.heap_spec.specs.Steps.{Acts, Attaches, Calls, Step, with_register}
use Rattle.roots.specs.Roots.{HasMutator}
use Rattle.plain_heap.specs.declared.extent.Extent.{Extent}
use Rattle.plain_heap.specs.PlainContents.{PlainContents, IsInHeap}
use Rattle.plain_heap.specs.Places.{IsFresh}
use Rattle.plain_heap.specs.Anywhere.{with_words, Requests}
use Rattle.plain_heap.specs.Standing.{StandsFor}

-- the address points into this object of each heap that the plain heap stands for, of the same length and kind
abbrev pub FindsExtent : PlainContents → ℕ → Extent → Type 0
FindsExtent c a e = (s : Heap) → StandsFor c s → (o : Object) × PointsIntoObject s a e.base o × (length o.words ≡ e.length) × (o.kind ≡ e.kind)

-- the word at the address of an object
abbrev pub HoldsWord : PlainContents → ℕ → ℕ → Type 0
HoldsWord c a w = (s : Heap) → StandsFor c s → (base : ℕ) × (o : Object) × PointsIntoObject s a base o × (slice_index o.words (index_in base a) ≡ w)

-- the address points into no object
abbrev pub FindsNothing : PlainContents → ℕ → Type 0
FindsNothing c a = (s : Heap) → StandsFor c s → PointsIntoNothing s a

-- the call of a mutator may be answered so, whatever its slot
abbrev pub MayAnswer : PlainContents → Mutator → Call → Reply → Type 0
MayAnswer c m call reply = (s : Heap) → StandsFor c s → (slot : ℕ) → (s' : Heap) × Acts s slot m call reply s'

-- the call of a slot may be answered so
abbrev pub CanAnswer : PlainContents → ℕ → Call → Reply → Type 0
CanAnswer c slot call reply = (s : Heap) → StandsFor c s → (s' : Heap) × Calls s slot call reply s'

-- the next mutator that comes may be answered so
abbrev pub CanAttach : PlainContents → Reply → Type 0
CanAttach c reply = (s : Heap) → StandsFor c s → (s' : Heap) × Attaches s reply s'

-- The event is answered so in no heap that the plain heap stands for.
abbrev pub IsNoStep : PlainContents → Event → Reply → Type 0
IsNoStep c event reply = (s : Heap) → StandsFor c s → (s' : Heap) → Step s event reply s' → ⊥

-- Each heap that the plain heap stood for has made the call, whatever its reply.
abbrev pub MakesCall : PlainContents → ℕ → Call → PlainContents → Type 0
MakesCall old slot call new = (s : Heap) → StandsFor old s → (reply : Reply) × (s' : Heap) × Calls s slot call reply s' × StandsFor new s'

-- An object was born at the base, and no other has a byte of it.
pub record IsBornAt (s : Heap) (base : ℕ) (s' : Heap) : Type 0 where
  pub object : Object
  pub there : HasObject s' base object
  pub newest : s.births < object.birth
  pub alone : (other w : ℕ) (o : Object) → HasObject s' other o → PointsInto w base (length object.words) → PointsInto w other (length o.words) → other ≡ base

-- what a granted request brings into a sound heap is born alone
abbrev pub BirthsAreAlone : Type 0
BirthsAreAlone = (s s' : Heap) (slot into words base : ℕ) (kind : Kind) (o : Object) → IsSound s → Calls s slot (Alloc into words kind) Done s' → HasObject s' base o → s.births < o.birth → IsBornAt s base s'

-- The object lies in the heap, and shares no byte with those that are there.
pub record MayBePut (c : PlainContents) (e : Extent) : Type 0 where
  pub in_heap : IsInHeap c.origin c.pages e
  pub fresh : IsFresh c.objects e

-- the heap with this object more, whose words are 0, and with its base in a register
abbrev pub heap_with : Heap → ℕ → Mutator → ℕ → Extent → Heap
heap_with s slot m into e = with_register (with_words s e.base e.kind e.length) slot m into e.base

-- The object was put there, and its base into a register of the slot.
abbrev pub IsPut : PlainContents → ℕ → ℕ → Extent → PlainContents → Type 0
IsPut old slot into e new = (m : Mutator) → HasMutator old.roots slot m → (s : Heap) → StandsFor old s → IsBornAt s e.base (heap_with s slot m into e) × StandsFor new (heap_with s slot m into e)

-- The plain heap begins where heaps with size classes do, and stands for a sound heap.
pub record StandsSoundly (c : PlainContents) : Type 0 where
  pub origin : c.origin ≡ FIRST_ADDRESS
  pub heap : Heap
  pub stands : StandsFor c heap
  pub sound : IsSound heap

-- if the call is a request, the plain heap begins there and stands for a sound heap
abbrev pub HasPlaces : PlainContents → Call → Type 0
HasPlaces c call = (into words : ℕ) (kind : Kind) → call ≡ Alloc into words kind → StandsSoundly c

-- the same, if it is granted
abbrev pub GrantHasPlaces : PlainContents → Call → Reply → Type 0
GrantHasPlaces c call reply = (into words : ℕ) (kind : Kind) → call ≡ Alloc into words kind → reply ≡ Done → StandsSoundly c

-- A request was granted at the base.
abbrev pub IsAllocatedAt : PlainContents → ℕ → ℕ → ℕ → Kind → ℕ → PlainContents → Type 0
IsAllocatedAt old slot into words kind base new = (s : Heap) → StandsFor old s → (s' : Heap) × Calls s slot (Alloc into words kind) Done s' × IsBornAt s base s' × StandsFor new s'

-- no heap that the plain heap stands for grants the request at the base, if it begins where heaps with size classes do
abbrev pub CantAllocateAt : PlainContents → ℕ → ℕ → ℕ → Kind → ℕ → Type 0
CantAllocateAt c slot into words kind base = c.origin ≡ FIRST_ADDRESS → (s : Heap) → StandsFor c s → (s' : Heap) → Calls s slot (Alloc into words kind) Done s' → IsBornAt s base s' → ⊥

-- an object of so many words was born at the base
abbrev pub IsBornOf : Heap → ℕ → ℕ → Heap → Type 0
IsBornOf s base n s' = (born : IsBornAt s base s') × (length born.object.words ≡ n)

-- a request was granted by an object of so many words at the base, which may lie anywhere
abbrev pub IsAllocatedAnywhere : PlainContents → ℕ → ℕ → ℕ → Kind → ℕ → ℕ → PlainContents → Type 0
IsAllocatedAnywhere old slot into words kind base n new = (s : Heap) → StandsFor old s → (s' : Heap) × Requests s old.origin slot into words kind Done s' × IsBornOf s base n s' × StandsFor new s'

-- no heap that the plain heap stands for grants the request so, wherever objects may lie
abbrev pub CantAllocateAnywhere : PlainContents → ℕ → ℕ → ℕ → Kind → ℕ → ℕ → Type 0
CantAllocateAnywhere c slot into words kind base n = (s : Heap) → StandsFor c s → (s' : Heap) → Requests s c.origin slot into words kind Done s' → IsBornOf s base n s' → ⊥

-- a request may be refused so, wherever objects may lie
abbrev pub MayRefuse : PlainContents → ℕ → ℕ → Reply → Type 0
MayRefuse c slot words reply = (into : ℕ) (kind : Kind) (s : Heap) → StandsFor c s → Requests s c.origin slot into words kind reply s

-- no heap that the plain heap stands for refuses the request so
abbrev pub CantRefuse : PlainContents → ℕ → ℕ → Reply → Type 0
CantRefuse c slot words reply = (into : ℕ) (kind : Kind) (s s' : Heap) → StandsFor c s → (reply ≡ Done → ⊥) → Requests s c.origin slot into words kind reply s' → ⊥
