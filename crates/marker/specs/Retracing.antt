-- A dirty page is read again.
use Rattle.std.specs.Prelude.{◌≡◌, ◌≢◌, ◌⊎◌, ℕ, ◌+◌, ◌*◌, ◌<◌, ◌≤◌, false, List, [], length, Contains, slice_set, Option, Some}
use Rattle.words.specs.declared.class.Kind.TheVariants.{Normal}
use Rattle.words.specs.declared.limits.TheConstants.{FIRST_ADDRESS, GRANULE_BYTES, PAGE_WORDS, WORD_BYTES}
use Rattle.words.specs.Bits.{Has, IsFirstFrom}
use Rattle.words.specs.Layout.{granule, page_start}
use Rattle.pages.specs.Memory.{word_at}
use Rattle.block_map.specs.declared.found.Found.{Found}
use Rattle.marker.specs.Marking.{Marking, IsMarked, IsNewlyMarked, Covers, with_dirty, with_carried, word_address}
use Rattle.marker.specs.Closure.{Closure}
use Rattle.marker.specs.Work.{cost}
use Rattle.marker.specs.Invariant.{IsSettled}
use Rattle.marker.specs.Growth.{MarksWords, IsStrayPage}

-- the word is one of a marked Normal object's, and stands from one address on and below another
pub record IsWordBetween (found : ℕ → Option Found) (words : List ℕ) (low high : ℕ) (m : Marking) (w : ℕ) : Type 0 where
  pub object : Found
  pub is : found object.base ≡ Some object
  pub normal : object.kind ≡ Normal
  pub marked : IsMarked m object.base
  pub index : ℕ
  pub inside : index < object.len
  pub from : low ≤ word_address object index
  pub below : word_address object index < high
  pub word : w ≡ word_at words (word_address object index)

-- The words of marked Normal objects that stand between two addresses were read again: all words of those that were
-- marked before, which are settled now, and no words but those of objects that are marked afterwards.
pub record Rereads (found : ℕ → Option Found) (words : List ℕ) (low high : ℕ) (old new : Marking) : Type 0 where
  pub read : List ℕ
  pub marks : MarksWords found old read (with_carried new old.carried)
  pub carried_len : length new.carried ≡ length old.carried
  pub carried : (p : ℕ) → Has old.carried p → Has new.carried p
  pub strays : (p : ℕ) → Has new.carried p → Has old.carried p ⊎ IsStrayPage found words [] old p
  pub settled : (f : Found) → found f.base ≡ Some f → f.kind ≡ Normal → IsMarked old f.base → (i : ℕ) → i < f.len → low ≤ word_address f i → word_address f i < high
      → IsSettled found new (word_address f i) (word_at words (word_address f i))
  pub all : (w : ℕ) → IsWordBetween found words low high old w → Contains read w
  pub only : (w : ℕ) → Contains read w → IsWordBetween found words low high new w
  pub within : (f : Found) → found f.base ≡ Some f → IsMarked new f.base → Closure found words [] (IsMarked old) f

-- A dirty page was made clean, and then the words on it were read again: it is clean unless an object on it was newly
-- marked, all others stay dirty, and what is left to read is less by its words.
pub record Retraces (found : ℕ → Option Found) (words : List ℕ) (page : ℕ) (old new : Marking) : Type 0 where
  pub dirty : Has old.dirty page
  pub reads : Rereads found words (page_start page) (page_start (page + 1)) (with_dirty old (slice_set old.dirty page false)) new
  pub clean : Has new.dirty page → (f : Found) × IsNewlyMarked found old new f × Covers f page
  pub others : (p : ℕ) → p ≢ page → Has old.dirty p → Has new.dirty p
  pub cost : cost found new + PAGE_WORDS ≤ cost found old

-- the lowest dirty page was read again
pub record RetracesLowest (found : ℕ → Option Found) (words : List ℕ) (page : ℕ) (old new : Marking) : Type 0 where
  pub lowest : IsFirstFrom old.dirty 0 page
  pub again : Retraces found words page old new

-- no object that begins at the granule `low` or further on, and before the address `high`, begins before the address `at`
pub record IsBefore (found : ℕ → Option Found) (high low at : ℕ) : Type 0 where
  pub within : at ≤ high
  pub before : (f : Found) → found f.base ≡ Some f → low ≤ granule f.base → f.base < high → at ≤ f.base

-- Of the objects that begin from the granule `low` on and before the granule `past`, the words below the address `high`
-- were read again: all words of the Normal ones that were marked at first, which are settled now, and no words but those of
-- Normal objects that are marked afterwards, none of them twice.
pub record RereadsObjects (found : ℕ → Option Found) (words : List ℕ) (first : Marking) (high low past : ℕ) (reads : ℕ) (old : Marking) (reads' : ℕ) (new : Marking) : Type 0 where
  pub read : List ℕ
  pub marks : MarksWords found old read (with_carried new old.carried)
  pub carried_len : length new.carried ≡ length old.carried
  pub carried : (p : ℕ) → Has old.carried p → Has new.carried p
  pub strays : (p : ℕ) → Has new.carried p → Has old.carried p ⊎ IsStrayPage found words [] old p
  pub settled : (f : Found) → found f.base ≡ Some f → f.kind ≡ Normal → IsMarked first f.base → low ≤ granule f.base → granule f.base < past
      → (i : ℕ) → i < f.len → word_address f i < high → IsSettled found new (word_address f i) (word_at words (word_address f i))
  pub all : (f : Found) → found f.base ≡ Some f → f.kind ≡ Normal → IsMarked first f.base → low ≤ granule f.base → granule f.base < past
      → (i : ℕ) → i < f.len → word_address f i < high → Contains read (word_at words (word_address f i))
  pub only : (w : ℕ) → Contains read w → IsWordBetween found words (FIRST_ADDRESS + GRANULE_BYTES * low) high new w
  pub within : (f : Found) → found f.base ≡ Some f → IsMarked new f.base → Closure found words [] (IsMarked old) f
  pub once : (at : ℕ) → IsBefore found high low at → (stop : ℕ) × IsBefore found high past stop × (WORD_BYTES * reads' + at ≤ WORD_BYTES * reads + stop)
