-- What crosses to C: a status and words.
use Rattle.std.specs.Prelude.{◌≡◌, ℕ, ◌<◌, ◌≤◌, ◌⊎◌, Bool, true, false, length, Option, Some, Result, Ok, Err, IfOk, ⊤}
use Rattle.words.specs.declared.refusal.Refusal.{Refusal}
use Rattle.words.specs.Bits.{members, IsEmptyFrom}
use Rattle.words.specs.Layout.{page_of}
use Rattle.words.specs.Refusals.{code_of}
use Rattle.heap_spec.specs.declared.event.Event.{Event}
use Rattle.heap_spec.specs.declared.event.Event.TheVariants.{Attach}
use Rattle.heap_spec.specs.Replies.{done_reply, slot_reply, word_reply, count_reply}
use Rattle.pages.specs.FreeRuns.{IsNextRun}
use Rattle.block_map.specs.FoundIn.{found_in}
use Rattle.pages.specs.Opening.{IsPageCount, IsNoPageCount, IsPageCountWithin, IsNoPageCountWithin}
use Rattle.heap_core.specs.CoreContents.{CoreContents}
use Rattle.block_map.specs.declared.found.Found.{Found}
use Rattle.heap_core.specs.MutatorCalls.{IsCall}
use Rattle.heap_core.specs.Granted.{granted_reply, HoldsWord}
use Rattle.heap_core.specs.KeptAt.{IsKeptAt, KeepsNothingAt}
use Rattle.heap_core.specs.Looks.{marks_at}
use Rattle.heap_core.specs.Opening.{IsNew, IsNewWith}
use Rattle.words.specs.declared.limits.TheConstants.{MOST_PAGES, MOST_REQUEST_WORDS}

-- The status tells a result that has no word: 0 of Ok, and the refusal's code of Err.
abbrev pub TellsDone : ℕ → Result ⊤ Refusal → Type 0
TellsDone status (Ok done) = status ≡ 0
TellsDone status (Err refusal) = status ≡ code_of refusal

-- The status and the word that was written tell a result. A refused call leaves the word as it was.
abbrev pub TellsWord : ℕ → ℕ → ℕ → Result ℕ Refusal → Type 0
TellsWord status before word (Ok x) = (status ≡ 0) × (word ≡ x)
TellsWord status before word (Err refusal) = (status ≡ code_of refusal) × (word ≡ before)

-- a call of a mutator that answers a status
abbrev pub IsDoneCall : Event → ℕ → CoreContents → CoreContents → Type 0
IsDoneCall event status old new = (r : Result ⊤ Refusal) × TellsDone status r × IsCall old event (done_reply r) new

-- a call of a mutator that answers a status and a word
abbrev pub IsWordCall : Event → ℕ → ℕ → ℕ → CoreContents → CoreContents → Type 0
IsWordCall event status before word old new = (r : Result ℕ Refusal) × TellsWord status before word r × IsCall old event (word_reply r) new

-- The numbers are good and P is what happened to the core; or they are not, the status is 100, and nothing has changed.
pub data IsServed (good : Type 0) (P : CoreContents → CoreContents → Type 0) (status : ℕ) (old new : Option CoreContents) : Type 0 where
  served : (c d : CoreContents) → good → old ≡ Some c → new ≡ Some d → P c d → IsServed good P status old new
  bad : (good → ⊥) → status ≡ 100 → new ≡ old → IsServed good P status old new

-- The same of a call that answers a number, which was `before` and is `after`: where the numbers are not good, it stays too.
pub data IsAnswered (good : Type 0) (P : CoreContents → CoreContents → Type 0) (status before after : ℕ) (old new : Option CoreContents) : Type 0 where
  answered : (c d : CoreContents) → good → old ≡ Some c → new ≡ Some d → P c d → IsAnswered good P status before after old new
  bad : (good → ⊥) → status ≡ 100 → after ≡ before → new ≡ old → IsAnswered good P status before after old new

-- A heap of so many pages was opened, or it has no or too many pages, or memory was refused.
pub data IsOpenedAs (pages status : ℕ) (old new : Option CoreContents) : Type 0 where
  opened : (c : CoreContents) → status ≡ 0 → IsPageCount pages → IsNew pages c → new ≡ Some c → IsOpenedAs pages status old new
  bad_pages : status ≡ 101 → IsNoPageCount pages → new ≡ old → IsOpenedAs pages status old new
  memory : status ≡ 102 → IsPageCount pages → new ≡ old → IsOpenedAs pages status old new

-- The same of a heap with limits of its own, of which each may be too great.
pub data IsOpenedWith (pages request_words status : ℕ) (old new : Option CoreContents) : Type 0 where
  opened : (c : CoreContents) → status ≡ 0 → IsPageCountWithin MOST_PAGES pages → IsNewWith pages request_words c → new ≡ Some c → IsOpenedWith pages request_words status old new
  bad_limits : status ≡ 101 → IsNoPageCountWithin MOST_PAGES pages ⊎ (MOST_REQUEST_WORDS < request_words) → new ≡ old → IsOpenedWith pages request_words status old new
  memory : status ≡ 102 → IsPageCountWithin MOST_PAGES pages → request_words ≤ MOST_REQUEST_WORDS → new ≡ old → IsOpenedWith pages request_words status old new

-- The status and the slot that was written tell a result. A refused call leaves the slot as it was.
abbrev pub TellsSlot : ℕ → ℕ → ℕ → Result ℕ Refusal → Type 0
TellsSlot = TellsWord

-- a mutator came
abbrev pub IsAttached : ℕ → ℕ → ℕ → CoreContents → CoreContents → Type 0
IsAttached status before slot old new = (r : Result ℕ Refusal) × TellsSlot status before slot r × IsCall old Attach (slot_reply r) new

-- a call of a mutator that answers a status and a number of things
abbrev pub IsCountCall : Event → ℕ → ℕ → ℕ → CoreContents → CoreContents → Type 0
IsCountCall event status before count old new = (r : Result ℕ Refusal) × TellsWord status before count r × IsCall old event (count_reply r) new

-- P is what happened to the core of an open handle.
pub data Holds (P : CoreContents → CoreContents → Type 0) (old new : Option CoreContents) : Type 0 where
  held : (c d : CoreContents) → old ≡ Some c → new ≡ Some d → P c d → Holds P old new

-- The status tells a result of which P is true, as of the core before and after.
abbrev pub TellsDoneOf : ℕ → (CoreContents → Result ⊤ Refusal → CoreContents → Type 0) → CoreContents → CoreContents → Type 0
TellsDoneOf status P old new = (r : Result ⊤ Refusal) × TellsDone status r × P old r new

-- The status and the number tell one.
abbrev pub TellsWordOf : ℕ → ℕ → ℕ → (CoreContents → Result ℕ Refusal → CoreContents → Type 0) → CoreContents → CoreContents → Type 0
TellsWordOf status before count P old new = (r : Result ℕ Refusal) × TellsWord status before count r × P old r new

-- so many collections were granted, and nothing has changed
abbrev pub HasCount : ℕ → CoreContents → CoreContents → Type 0
HasCount count old new = (count ≡ old.cycle.count) × (new ≡ old)

-- whether a cycle is marking, and nothing has changed
abbrev pub HasPhase : Bool → CoreContents → CoreContents → Type 0
HasPhase phase old new = (phase ≡ old.cycle.is_marking) × (new ≡ old)

-- whether an object that begins at the base is kept and marked, and nothing has changed
abbrev pub HasMark : ℕ → Bool → CoreContents → CoreContents → Type 0
HasMark base answer old new = (answer ≡ marks_at old base) × (new ≡ old)

-- The base and the words of the kept object that the word points into were written, and nothing has changed; or it points into none,
-- the status is that of NoObject, and they are as they were.
pub data FindsAt (word status base_before words_before base words : ℕ) (old new : CoreContents) : Type 0 where
  found : (f : Found) → IsKeptAt old word f → status ≡ 0 → base ≡ f.base → words ≡ f.len → new ≡ old → FindsAt word status base_before words_before base words old new
  nothing : KeepsNothingAt old word → status ≡ 3 → base ≡ base_before → words ≡ words_before → new ≡ old → FindsAt word status base_before words_before base words old new

-- so many pages are free, and nothing has changed
abbrev pub HasFreePages : ℕ → CoreContents → CoreContents → Type 0
HasFreePages count old new = (count ≡ members old.store.free) × (new ≡ old)

-- so many are dirty, and nothing has changed
abbrev pub HasDirtyPages : ℕ → CoreContents → CoreContents → Type 0
HasDirtyPages count old new = (count ≡ members old.cycle.marker.dirty) × (new ≡ old)

-- so many are pending, and nothing has changed
abbrev pub HasPendingPages : ℕ → CoreContents → CoreContents → Type 0
HasPendingPages count old new = (count ≡ members old.store.pending) × (new ≡ old)

-- There is a run of free pages from the page on, and its first page and number of pages were written; or there is none, and they
-- are as they were. Nothing has changed.
pub data TellsFreeRun (low : ℕ) (result : Bool) (first_before pages_before first pages : ℕ) (old new : CoreContents) : Type 0 where
  found : IsNextRun old.store.free low (record { first = first; pages = pages }) → result ≡ true → new ≡ old → TellsFreeRun low result first_before pages_before first pages old new
  nothing : IsEmptyFrom old.store.free low → result ≡ false → first ≡ first_before → pages ≡ pages_before → new ≡ old → TellsFreeRun low result first_before pages_before first pages old new

-- no object has a word past so many pages, and nothing has changed
pub record HasUsedPages (count : ℕ) (old new : CoreContents) : Type 0 where
  pub inside : count ≤ length old.store.states
  pub below : (w : ℕ) (f : Found) → found_in old.store.states w ≡ Some f → page_of w < count
  pub same : new ≡ old

-- An allocation that answers a status and, where it is done, the base: what the register then holds.
abbrev pub IsBaseCall : Event → ℕ → ℕ → ℕ → ℕ → ℕ → CoreContents → CoreContents → Type 0
IsBaseCall event slot into status before base old new =
    (r : Result ℕ Refusal) × TellsWord status before base r × IsCall old event (granted_reply r) new × IfOk r (λ word. HoldsWord new.roots slot into word)
