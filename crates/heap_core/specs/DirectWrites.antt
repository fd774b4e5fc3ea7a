-- Words that are written past the calls of a core, as by a program in C that has the heap's memory in its own address space:
-- what such writes may change, and what they are to the heap.
use Rattle.std.specs.Prelude.{◌≡◌, ℕ, ◌+◌, ◌*◌, ◌%◌, ◌<◌, ◌≤◌, ◌⊎◌, true, false, Bool, List, All, Some, length, slice_index, slice_set}
use Rattle.words.specs.declared.class.Kind.TheVariants.{Normal}
use Rattle.words.specs.declared.limits.TheConstants.{FIRST_ADDRESS, REGISTERS, WORD_BYTES}
use Rattle.words.specs.Bits.{Has}
use Rattle.words.specs.Layout.{page_of}
use Rattle.heap_spec.specs.declared.call.Call.TheVariants.{Detach, Set, Store}
use Rattle.heap_spec.specs.declared.event.Event.TheVariants.{Attach, Mutator}
use Rattle.heap_spec.specs.declared.reply.Reply.TheVariants.{Done, Slot}
use Rattle.heap_spec.specs.Heap.{Heap, Object, Mutator as HeapMutator, HasObject, IsSameObject}
use Rattle.heap_spec.specs.Ranges.{IsRegister, IsWord}
use Rattle.heap_spec.specs.Runs.{Start, Run, Told}
use Rattle.heap_spec.specs.Sound.{IsRow}
use Rattle.heap_spec.specs.Steps.{with_object}
use Rattle.pages.specs.Memory.{IsWordAddress, word_at, with_word_at}
use Rattle.block_map.specs.declared.found.Found.{Found}
use Rattle.block_map.specs.FoundIn.{found_in}
use Rattle.marker.specs.Invariant.{IsTargetMarked, IsSettled}
use Rattle.marker.specs.Marking.{IsConsistent, IsMarked, StaysDirty, with_dirty}
use Rattle.roots.specs.Roots.{HasMutator, IsNextSlot}
use Rattle.object_space.specs.Store.{IsWholeStore}
use Rattle.heap_core.specs.CoreContents.{CoreContents, IsCore}
use Rattle.heap_core.specs.Held.{IsSoundCore}
use Rattle.heap_core.specs.Standing.{StandsFor, objects_of}
use Rattle.heap_core.specs.Following.{AreLines, Follows}

-- the core with these words in its memory and these dirty pages
abbrev pub with_memory : CoreContents → List ℕ → List Bool → CoreContents
with_memory c words dirty = record c { store = record c.store { words = words }; cycle = record c.cycle { marker = with_dirty c.cycle.marker dirty } }

-- The word at the address is as it was; or the address is one of a kept object, and what stands there is a word. Its page is
-- then dirty, unless the collector never reads the object's words, or needs no more: while a cycle is marking what stands there
-- points into nothing or into a marked object, and where no full cycle is needed the object has no mark or the word is settled.
pub data IsLeftOrWritten (old : CoreContents) (words : List ℕ) (dirty : List Bool) (address : ℕ) : Type 0 where
  left : word_at words address ≡ word_at old.store.words address → IsLeftOrWritten old words dirty address
  written : (f : Found) → objects_of old address ≡ Some f → IsWord (word_at words address) → (old.cycle.is_marking ≡ true → f.kind ≡ Normal → IsTargetMarked (found_in old.store.states) old.cycle.marker (word_at words address) ⊎ Has dirty (page_of address))
      → (old.cycle.needs_full ≡ false → f.kind ≡ Normal → IsMarked old.cycle.marker f.base → IsSettled (found_in old.store.states) old.cycle.marker address (word_at words address) ⊎ Has dirty (page_of address))
      → IsLeftOrWritten old words dirty address

-- Words of kept objects are others, on dirty pages where they need it, and pages may have become dirty.
-- Nothing else has changed: no word of a free cell, of a forgotten object or of a free page.
pub record WritesWords (old new : CoreContents) : Type 0 where
  pub alone : new ≡ with_memory old new.store.words new.cycle.marker.dirty
  pub size : length new.store.words ≡ length old.store.words
  pub words : (address : ℕ) → IsWordAddress old.store.words address → IsLeftOrWritten old new.store.words new.cycle.marker.dirty address
  pub dirty_len : length new.cycle.marker.dirty ≡ length old.cycle.marker.dirty
  pub stays_dirty : StaysDirty old.cycle.marker new.cycle.marker

-- All that is true of a core: what its callers are told, that it stands for a sound heap, and what its parts keep to themselves,
-- the rows of ready and of waiting pages, and what the marker knows of its entries.
pub record IsWholeCore (c : CoreContents) : Type 0 where
  pub core : IsCore c
  pub sound : IsSoundCore c
  pub space : IsWholeStore c.store
  pub marker : IsConsistent c.cycle.marker

-- One word of one object is another.
pub data StoresWord (s : Heap) : Heap → Type 0 where
  stored : {base i w : ℕ} {o : Object} → HasObject s base o → i < length o.words → IsWord w → StoresWord s (with_object s base (Some (record o { words = slice_set o.words i w })))

-- Words of objects are others, one after another.
pub data StoresWords (s : Heap) : Heap → Type 0 where
  none : StoresWords s s
  more : {mid s' : Heap} → StoresWords s mid → StoresWord mid s' → StoresWords s s'

-- The same heap but for words of objects: the same roots and links, and at each base the same object.
pub record HasOtherWords (s s' : Heap) : Type 0 where
  pub pages : s'.pages ≡ s.pages
  pub request_words : s'.request_words ≡ s.request_words
  pub mutators : s'.mutators ≡ s.mutators
  pub globals : s'.globals ≡ s.globals
  pub births : s'.births ≡ s.births
  pub links : s'.links ≡ s.links
  pub stays : (base : ℕ) (o : Object) → HasObject s base o → (p : Object) × HasObject s' base p × IsSameObject o p
  pub only : (base : ℕ) (p : Object) → HasObject s' base p → (o : Object) × HasObject s base o × IsSameObject o p

-- each word of an object is what the memory has at its address
abbrev pub HasWordsOf : List ℕ → Heap → Type 0
HasWordsOf words s = (base i : ℕ) (o : Object) → HasObject s base o → i < length o.words → slice_index o.words i ≡ word_at words (base + WORD_BYTES * i)

-- Whatever is true of every core stays true.
abbrev pub WritesKeepCores : Type 0
WritesKeepCores = (old new : CoreContents) → IsWholeCore old → WritesWords old new → IsWholeCore new

-- From each heap that the core stood for, stores of words lead to one that it stands for: the same objects, with the words that
-- the memory has.
abbrev pub WritesAreStores : Type 0
WritesAreStores = (old new : CoreContents) → IsWholeCore old → WritesWords old new
    → (s : Heap) → StandsFor old s → (s' : Heap) × StoresWords s s' × HasOtherWords s s' × HasWordsOf new.store.words s' × StandsFor new s'

-- A line of the mutator at the slot: it puts a word into a register of its own, or stores the word of one, and the answer is
-- that it is done.
pub data IsWriteLine (slot : ℕ) : Told → Type 0 where
  set : {r w : ℕ} → IsRegister r → IsWord w → IsWriteLine slot (record { event = Mutator slot (Set r w); reply = Done })
  store : {a n r : ℕ} → IsRegister a → IsWord n → IsRegister r → IsWriteLine slot (record { event = Mutator slot (Store a n r); reply = Done })

-- To each run that the core followed they are lines of any mutator that is attached, by which it goes on legally to one that the
-- core follows: what they made is what sets and stores make, and so is what is touched.
abbrev pub WritesAreLines : Type 0
WritesAreLines = (old new : CoreContents) (slot : ℕ) (m : HeapMutator) → IsWholeCore old → HasMutator old.roots slot m → IsRow REGISTERS m.registers
    → WritesWords old new → (lines : List Told) × All (IsWriteLine slot) lines × AreLines old lines new

-- A line of a mutator that comes to the slot, puts words into its registers and stores them, and goes.
pub data IsVisitLine (slot : ℕ) : Told → Type 0 where
  comes : IsVisitLine slot (record { event = Attach; reply = Slot slot })
  writes : {told : Told} → IsWriteLine slot told → IsVisitLine slot told
  goes : IsVisitLine slot (record { event = Mutator slot Detach; reply = Done })

-- They are also lines of a mutator that comes to write and goes, where a slot is vacant.
abbrev pub WritesAreVisits : Type 0
WritesAreVisits = (old new : CoreContents) (slot : ℕ) → IsWholeCore old → IsNextSlot old.roots slot
    → WritesWords old new → (lines : List Told) × All (IsVisitLine slot) lines × AreLines old lines new

-- An address was told: its page is dirty, if the heap has it, and no other page has become so. This is
-- no event: the core stands for what it stood for and follows the runs that it followed, and nothing else has changed.
pub record TellsWritten (address : ℕ) (old new : CoreContents) : Type 0 where
  pub alone : new ≡ with_memory old old.store.words new.cycle.marker.dirty
  pub dirty_len : length new.cycle.marker.dirty ≡ length old.cycle.marker.dirty
  pub dirty : (p : ℕ) → Has new.cycle.marker.dirty p → Has old.cycle.marker.dirty p ⊎ ((FIRST_ADDRESS ≤ address) × (p ≡ page_of address))
  pub stays_dirty : StaysDirty old.cycle.marker new.cycle.marker
  pub written : FIRST_ADDRESS ≤ address → page_of address < length old.store.states → Has new.cycle.marker.dirty (page_of address)
  pub stands : (s : Heap) → StandsFor old s → StandsFor new s
  pub follows : (start : Start) (run : Run) → Follows old start run → Follows new start run

-- Once the address of a word of a kept object was told, any word may be written there.
abbrev pub ToldMayBeWritten : Type 0
ToldMayBeWritten = (old new : CoreContents) (address w : ℕ) (f : Found) → IsWholeCore old → TellsWritten address old new → objects_of new address ≡ Some f → address % WORD_BYTES ≡ 0 → IsWord w
    → WritesWords new (with_memory new (with_word_at new.store.words address w) new.cycle.marker.dirty)
