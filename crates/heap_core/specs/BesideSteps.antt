-- Marking while a program writes words past the calls of a core.
use Rattle.std.specs.Prelude.{◌≡◌, ℕ, ◌<◌, ◌≤◌, true, List, All, Contains, length, slice_index}
use Rattle.words.specs.declared.limits.TheConstants.{REGISTERS}
use Rattle.heap_spec.specs.declared.call.Call.TheVariants.{Set}
use Rattle.heap_spec.specs.declared.event.Event.TheVariants.{Mutator}
use Rattle.heap_spec.specs.declared.reply.Reply.TheVariants.{Done}
use Rattle.heap_spec.specs.Heap.{Heap, Mutator as HeapMutator}
use Rattle.heap_spec.specs.Ranges.{IsWord}
use Rattle.heap_spec.specs.Runs.{Told}
use Rattle.heap_spec.specs.Sound.{IsRow}
use Rattle.heap_spec.specs.Steps.{register}
use Rattle.words.specs.Bits.{Has}
use Rattle.pages.specs.Reads.{AreMoments}
use Rattle.block_map.specs.FoundIn.{found_in}
use Rattle.marker.specs.Beside.{TracesIn}
use Rattle.marker.specs.Entries.{Takes}
use Rattle.marker.specs.Marking.{IsEmpty, StaysDirty}
use Rattle.marker.specs.Retracing.{Retraces}
use Rattle.roots.specs.Roots.{HasMutator}
use Rattle.heap_core.specs.CoreContents.{CoreContents}
use Rattle.heap_core.specs.Collections.{ReadsPage}
use Rattle.heap_core.specs.DirectWrites.{IsWholeCore, WritesWords, with_memory}
use Rattle.heap_core.specs.Following.{AreLines}
use Rattle.heap_core.specs.Standing.{StandsFor}

-- The marker went on, and read each word as it was at one of these moments. The core stands for what it stood for, and nothing but
-- the marker has changed.
pub record GoesOnBeside (moments : List (List ℕ)) (old new : CoreContents) : Type 0 where
  pub stands : (s : Heap) → StandsFor old s → StandsFor new s
  pub alone : new ≡ record old { cycle = record old.cycle { marker = new.cycle.marker } }
  pub traces : TracesIn (found_in old.store.states) moments old.cycle.marker new.cycle.marker

-- So many words were taken off the entries, each read at one of the moments, at most as many as were asked for, and fewer only if no
-- entry is left. No page has become clean.
pub record MarksBeside (asked : ℕ) (moments : List (List ℕ)) (old : CoreContents) (n : ℕ) (new : CoreContents) : Type 0 where
  pub on : GoesOnBeside moments old new
  pub dirty : StaysDirty old.cycle.marker new.cycle.marker
  pub most : n ≤ asked
  pub fewer : n < asked → IsEmpty new.cycle.marker
  pub takes : Takes (found_in old.store.states) moments old.cycle.marker n new.cycle.marker

-- The lowest dirty page was read again, or none was dirty.
pub record RetracesBeside (moments : List (List ℕ)) (old : CoreContents) (n : ℕ) (new : CoreContents) : Type 0 where
  pub on : GoesOnBeside moments old new
  pub reads : ReadsPage old new n

-- This page was read again, or it was not dirty and nothing has changed.
pub data ReadsThisPage (page : ℕ) (old new : CoreContents) : ℕ → Type 0 where
  not_dirty : (Has old.cycle.marker.dirty page → ⊥) → new ≡ old → ReadsThisPage page old new 0
  again : Retraces (found_in old.store.states) old.store.words page old.cycle.marker new.cycle.marker → ReadsThisPage page old new 1

-- This page was read again, or it was not dirty.
pub record RetracesPageBeside (page : ℕ) (moments : List (List ℕ)) (old : CoreContents) (n : ℕ) (new : CoreContents) : Type 0 where
  pub on : GoesOnBeside moments old new
  pub reads : ReadsThisPage page old new n

-- the word was written: at one of the moments it stands where another one stood
pub record IsWrittenIn (words : List ℕ) (moments : List (List ℕ)) (v : ℕ) : Type 0 where
  pub after : List ℕ
  pub moment : Contains moments after
  pub index : ℕ
  pub inside : index < length words
  pub word : slice_index after index ≡ v
  pub other : v ≡ slice_index words index → ⊥

-- A line of the mutator at the slot: it puts a word that was written into its register 0, or what the register had at first.
pub data IsBringLine (words : List ℕ) (moments : List (List ℕ)) (slot : ℕ) (m : HeapMutator) : Told → Type 0 where
  brings : {v : ℕ} → IsWrittenIn words moments v → IsWord v → IsBringLine words moments slot m (record { event = Mutator slot (Set 0 v); reply = Done })
  restores : IsBringLine words moments slot m (record { event = Mutator slot (Set 0 (register m 0)); reply = Done })

-- To each run that the core followed, such work of the marker is lines of any mutator that is attached, by which the run goes on
-- legally to one that the core follows: it has in a register, one after another, the words that were written meanwhile.
abbrev pub BesideIsLines : Type 0
BesideIsLines = (old new : CoreContents) (moments : List (List ℕ)) (slot : ℕ) (m : HeapMutator) → IsWholeCore old → old.cycle.is_marking ≡ true → HasMutator old.roots slot m → IsRow REGISTERS m.registers
    → AreMoments old.store.words moments → ((v : ℕ) → IsWrittenIn old.store.words moments v → IsWord v) → GoesOnBeside moments old new
    → (lines : List Told) × All (IsBringLine old.store.words moments slot m) lines × AreLines old lines new

-- Words that were written while the marker went on are words that are written after it: the laws of such writes hold of them.
abbrev pub WrittenBesideIsWrittenAfter : Type 0
WrittenBesideIsWrittenAfter = (old new : CoreContents) (moments : List (List ℕ)) (after : List ℕ) → IsWholeCore old → old.cycle.is_marking ≡ true → AreMoments old.store.words moments → Contains moments after
    → WritesWords old (with_memory old after old.cycle.marker.dirty) → GoesOnBeside moments old new → WritesWords new (with_memory new after new.cycle.marker.dirty)
