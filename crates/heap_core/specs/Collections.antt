-- What calls of the collector do to a core.
use Rattle.std.specs.Prelude.{◌≡◌, ℕ, ◌+◌, ◌*◌, ◌%◌, ◌<◌, ◌≤◌, Bool, true, false, List, [], ◌∷◌, length, count_by, Contains, Option, Some, Result, Ok, Err, if◌then◌else◌, ◌⊎◌}
use Rattle.words.specs.Bits.{Has}
use Rattle.words.specs.declared.limits.TheConstants.{PAGE_WORDS}
use Rattle.words.specs.declared.refusal.Refusal.{Refusal}
use Rattle.words.specs.declared.refusal.Refusal.TheVariants.{WrongPhase, NeedsFull}
use Rattle.heap_spec.specs.declared.reply.Reply.{Reply}
use Rattle.heap_spec.specs.declared.reply.Reply.TheVariants.{Count}
use Rattle.heap_spec.specs.Layout.{word_end}
use Rattle.heap_spec.specs.Heap.{Heap, Object, HasObject}
use Rattle.heap_spec.specs.Closure.{Closure}
use Rattle.heap_spec.specs.Cycles.{TakesOut, CollectsFully}
use Rattle.block_map.specs.declared.found.Found.{Found}
use Rattle.marker.specs.Marking.{Marking, IsMarked, IsBlank, IsEmpty, IsClean, IsDone, StaysDirty}
use Rattle.marker.specs.Invariant.{AreRootsMarked}
use Rattle.marker.specs.Growth.{MarksWords, Traces}
use Rattle.marker.specs.Entries.{Takes, TakesOff}
use Rattle.marker.specs.Retracing.{RetracesLowest}
use Rattle.marker.specs.Work.{dirty_pages, newly_pages, entry_words, span}
use Rattle.marker.specs.Mutations.{BeginsPartial}
use Rattle.heap_view.specs.Shows.{IsMarkedBirth}
use Rattle.roots.specs.Roots.{root_words_of}
use Rattle.object_space.specs.Store.{IsSwept}
use Rattle.heap_core.specs.CoreContents.{CoreContents}
use Rattle.object_space.specs.Kept.{IsPendingAfter}
use Rattle.object_space.specs.Sweeps.{KeepsCells, SweepsAny}
use Rattle.block_map.specs.FoundIn.{found_in}
use Rattle.heap_core.specs.Standing.{StandsFor, objects_of}
use Rattle.heap_core.specs.Strays.{HasStray}

-- A call of the collector in one phase alone: granted exactly in that phase, refused in the other, and refused it changes
-- nothing.
abbrev pub IsGrantedInPhase : {A : Type 0} → Bool → CoreContents → Result A Refusal → CoreContents → (A → Type 0) → Type 0
IsGrantedInPhase phase old (Ok x) new P = (old.cycle.is_marking ≡ phase) × P x
IsGrantedInPhase phase old (Err refusal) new P = (old.cycle.is_marking ≡ (if phase then false else true)) × (refusal ≡ WrongPhase) × (new ≡ old)

-- A call of the collector in any phase is granted.
abbrev pub IsAlwaysGranted : {A : Type 0} → Result A Refusal → (A → Type 0) → Type 0
IsAlwaysGranted (Ok x) P = P x
IsAlwaysGranted (Err refusal) P = ⊥

-- A cycle begins: the core is marking, with no mark, no dirty or carried page, no entry, and no pending page, and no full cycle
-- is needed after it. No collection is counted, and no read.
pub record BeginsCycle (old new : CoreContents) : Type 0 where
  pub stands : (s : Heap) → StandsFor old s → StandsFor new s
  pub roots : new.roots ≡ old.roots
  pub phase : new.cycle.is_marking ≡ true
  pub count : new.cycle.count ≡ old.cycle.count
  pub reads : new.cycle.reads ≡ old.cycle.reads
  pub needs_full : new.cycle.needs_full ≡ false
  pub blank : IsBlank (length old.store.states) new.cycle.marker
  pub swept : IsSwept new.store

-- Why a cycle may not begin with the marks of the last one: one is marking, or none is and a full one is needed.
pub data RefusesPartial (old : CoreContents) : Refusal → Type 0 where
  wrong_phase : old.cycle.is_marking ≡ true → RefusesPartial old WrongPhase
  needs : old.cycle.is_marking ≡ false → old.cycle.needs_full ≡ true → RefusesPartial old NeedsFull

-- Granted exactly where neither holds, and refused it changes nothing.
abbrev pub IsGrantedPartial : {A : Type 0} → CoreContents → Result A Refusal → CoreContents → Type 0 → Type 0
IsGrantedPartial old (Ok x) new P = (old.cycle.is_marking ≡ false) × (old.cycle.needs_full ≡ false) × P
IsGrantedPartial old (Err refusal) new P = RefusesPartial old refusal × (new ≡ old)

-- A cycle begins with the marks of the last one: the core is marking, the marks and the entries are what they were, dirty are the
-- pages that were dirty or carried, none is carried, and no page is pending. No collection is counted, and no read.
pub record BeginsPartialCycle (old new : CoreContents) : Type 0 where
  pub stands : (s : Heap) → StandsFor old s → StandsFor new s
  pub roots : new.roots ≡ old.roots
  pub phase : new.cycle.is_marking ≡ true
  pub count : new.cycle.count ≡ old.cycle.count
  pub reads : new.cycle.reads ≡ old.cycle.reads
  pub needs_full : new.cycle.needs_full ≡ false
  pub marking : BeginsPartial old.cycle.marker new.cycle.marker
  pub swept : IsSwept new.store

-- The marker went on, with these roots, and nothing but its work has changed. The core stands for what it stood for, in the
-- same phase and with the same count; only objects of the closure of the marks before are marked, and only pages of newly
-- marked ones have become dirty.
pub record MarksOn (roots : List ℕ) (old new : CoreContents) : Type 0 where
  pub stands : (s : Heap) → StandsFor old s → StandsFor new s
  pub phase : new.cycle.is_marking ≡ old.cycle.is_marking
  pub count : new.cycle.count ≡ old.cycle.count
  pub alone : new ≡ record old { cycle = record old.cycle { marker = new.cycle.marker } }
  pub within : (s : Heap) → StandsFor old s → (base : ℕ) (o : Object) → HasObject s base o → IsMarked new.cycle.marker base → Closure s (IsMarkedBirth s old.cycle.marker) base
  pub traces : Traces (found_in old.store.states) old.store.words roots old.cycle.marker new.cycle.marker

-- The roots were read, word by word: what they point into is marked. No page has become clean.
pub record ReadsRoots (old new : CoreContents) : Type 0 where
  pub marks : MarksOn (root_words_of old.roots) old new
  pub words : MarksWords (found_in old.store.states) old.cycle.marker (root_words_of old.roots) new.cycle.marker
  pub dirty : StaysDirty old.cycle.marker new.cycle.marker
  pub roots : AreRootsMarked (found_in old.store.states) (root_words_of old.roots) new.cycle.marker

-- So many words were taken off the entries, at most as many as were asked for, and fewer only if no entry is left. No page
-- has become clean.
pub record TakesWords (asked : ℕ) (old : CoreContents) (n : ℕ) (new : CoreContents) : Type 0 where
  pub marks : MarksOn [] old new
  pub dirty : StaysDirty old.cycle.marker new.cycle.marker
  pub most : n ≤ asked
  pub fewer : n < asked → IsEmpty new.cycle.marker
  pub takes : Takes (found_in old.store.states) (old.store.words ∷ []) old.cycle.marker n new.cycle.marker
  pub taken : TakesOff (found_in old.store.states) old.store.words old.cycle.marker new.cycle.marker

-- A page was read again, the lowest that was dirty, or none was dirty and nothing has changed.
pub data ReadsPage (old new : CoreContents) : ℕ → Type 0 where
  none : IsClean old.cycle.marker → new ≡ old → ReadsPage old new 0
  page : (p : ℕ) → RetracesLowest (found_in old.store.states) old.store.words p old.cycle.marker new.cycle.marker → ReadsPage old new 1

-- A page was read again, or none was dirty, by the marker's work alone.
pub record RetracesPage (old : CoreContents) (n : ℕ) (new : CoreContents) : Type 0 where
  pub marks : MarksOn [] old new
  pub reads : ReadsPage old new n

-- The marking was closed: no page is dirty, no entry is left, and all objects of the closure of the marks before are marked, as by
-- `MarksOn` no others are.
pub record ClosesMarks (old new : CoreContents) : Type 0 where
  pub marks : MarksOn (root_words_of old.roots) old new
  pub done : IsDone new.cycle.marker
  pub all : (s : Heap) → StandsFor old s → (base : ℕ) (o : Object) → HasObject s base o → Closure s (IsMarkedBirth s old.cycle.marker) base → IsMarked new.cycle.marker base

-- Exactly the objects outside of the closure of these births go. None of them is reached.
pub record ForgetsOutside (s : Heap) (births : ℕ → Type 0) (reply : Reply) (s' : Heap) : Type 0 where
  pub bases : List ℕ
  pub takes : TakesOut s bases reply s'
  pub outside : (base : ℕ) → Contains bases base → Closure s births base → ⊥
  pub all : (base : ℕ) (o : Object) → HasObject s base o → (Closure s births base → ⊥) → Contains bases base

-- The marking has ended, and one collection more is counted. No page is dirty and no entry is left, each object that is kept
-- is marked, and no root has changed. All reads have grown by those of this collection.
pub record EndsMarking (old new : CoreContents) : Type 0 where
  pub roots : new.roots ≡ old.roots
  pub phase : new.cycle.is_marking ≡ false
  pub count : new.cycle.count ≡ (old.cycle.count + 1) % word_end
  pub done : IsDone new.cycle.marker
  pub marked : (f : Found) → objects_of new f.base ≡ Some f → IsMarked new.cycle.marker f.base
  pub all_reads : new.cycle.reads.all ≡ old.cycle.reads.all + new.cycle.reads.last

-- A cycle ends: exactly the objects outside of the closure of the marks go, so many, the small ones only when their pages are
-- swept. The pending pages are then the blocks with an unmarked allocated object. The carried pages still are, and each other
-- one has a stray word of an object of that closure. Heap words were read at most as many as the pages have that were dirty,
-- for each newly marked object as the pages have that it covers, and as the entries had left.
pub record EndsCycle (old : CoreContents) (n : ℕ) (new : CoreContents) : Type 0 where
  pub ends : EndsMarking old new
  pub needs_full : new.cycle.needs_full ≡ old.cycle.needs_full
  pub forgets : (s : Heap) → StandsFor old s → (s' : Heap) × ForgetsOutside s (IsMarkedBirth s old.cycle.marker) (Count n) s' × StandsFor new s'
  pub cells : KeepsCells old.store new.store
  pub pending : IsPendingAfter new.store.states new.cycle.marker.marks new.store.pending
  pub carried : (p : ℕ) → Has old.cycle.marker.carried p → Has new.cycle.marker.carried p
  pub strays : (s : Heap) → StandsFor old s → (p : ℕ) → Has new.cycle.marker.carried p → Has old.cycle.marker.carried p ⊎ HasStray s (IsMarkedBirth s old.cycle.marker) p
  pub reads : new.cycle.reads.last ≤ PAGE_WORDS * (dirty_pages old.cycle.marker + newly_pages (found_in old.store.states) old.cycle.marker new.cycle.marker) + entry_words (found_in old.store.states) old.cycle.marker

-- the sum over marked objects of the pages that each covers, in a row of marks that begins at the granule k
unfoldable pub marked_from : (ℕ → Option Found) → ℕ → List Bool → ℕ
marked_from found k [] = 0
marked_from found k (true ∷ row) = span found k + marked_from found (k + 1) row
marked_from found k (false ∷ row) = marked_from found (k + 1) row

-- the sum over all marked objects of the pages that each covers
abbrev pub marked_pages : (ℕ → Option Found) → Marking → ℕ
marked_pages found m = marked_from found 0 m.marks

-- A full collection: exactly the objects that are not reached go, so many, and no page is pending. On each carried page a stray
-- word of a reached object stands. Heap words were read at most as many as for each object that is left the pages have that it covers.
pub record CollectsAll (old : CoreContents) (n : ℕ) (new : CoreContents) : Type 0 where
  pub ends : EndsMarking old new
  pub needs_full : new.cycle.needs_full ≡ false
  pub swept : IsSwept new.store
  pub collects : (s : Heap) → StandsFor old s → (s' : Heap) × CollectsFully s (Count n) s' × StandsFor new s'
  pub strays : (s : Heap) → StandsFor old s → (p : ℕ) → Has new.cycle.marker.carried p → HasStray s (λ _. ⊥) p
  pub reads : new.cycle.reads.last ≤ PAGE_WORDS * marked_pages (found_in new.store.states) new.cycle.marker

-- One page was swept if one was pending: its unmarked objects are gone, no other page has changed, and one fewer is pending,
-- none of them new. Else nothing has changed. The core stands for what it stood for.
pub record SweepsOne (old : CoreContents) (n : ℕ) (new : CoreContents) : Type 0 where
  pub stands : (s : Heap) → StandsFor old s → StandsFor new s
  pub roots : new.roots ≡ old.roots
  pub cycle : new.cycle ≡ old.cycle
  pub few : n ≤ 1
  pub page : n ≡ 1 → SweepsAny old.store old.cycle.marker.marks new.store
  pub fewer : count_by (λ b. b) new.store.pending + n ≡ count_by (λ b. b) old.store.pending
  pub only : (p : ℕ) → Has new.store.pending p → Has old.store.pending p
  pub none : n ≡ 0 → IsSwept old.store × (new ≡ old)
