-- What becomes of the entries.
use Rattle.std.specs.Prelude.{◌≡◌, ℕ, ◌+◌, ◌*◌, ◌%◌, ◌<◌, ◌≤◌, Bool, List, [], ◌∷◌, ◌++◌, length, slice_index_or, Contains, IsPermutation, Option, Some, None, ◌⊎◌}
use Rattle.words.specs.declared.class.Kind.TheVariants.{Normal}
use Rattle.words.specs.declared.limits.TheConstants.{PAGE_BYTES, WORD_BYTES}
use Rattle.words.specs.Layout.{page_of}
use Rattle.pages.specs.Memory.{word_at}
use Rattle.pages.specs.Reads.{IsWoven}
use Rattle.block_map.specs.declared.found.Found.{Found}
use Rattle.block_map.specs.Objects.{IsPlaced}
use Rattle.marker.specs.declared.entry.Entry.{Entry}
use Rattle.marker.specs.Marking.{Marking, IsMarked, IsEntry, entries, with_current, with_carried, with_stack, bytes_of, word_address}
use Rattle.marker.specs.Invariant.{IsTargetMarked}
use Rattle.marker.specs.Growth.{MarksWords, CarriesPage, words_from, entry_of}

-- no object reads on at the entry: none with its base is Normal and marked and has the word
abbrev pub IsSpent : (ℕ → Option Found) → Marking → Entry → Type 0
IsSpent found m e = (f : Found) → found f.base ≡ Some f → f.base ≡ e.base → f.kind ≡ Normal → IsMarked m f.base → f.len ≤ e.next

-- the entry has a word of this object left to read
pub record IsUnread (found : ℕ → Option Found) (m : Marking) (e : Entry) (f : Found) : Type 0 where
  pub object : found f.base ≡ Some f
  pub base : f.base ≡ e.base
  pub normal : f.kind ≡ Normal
  pub marked : IsMarked m f.base
  pub left : e.next < f.len

-- the entry has a word of an object left to read, whose length it says
pub record IsKnown (found : ℕ → Option Found) (m : Marking) (e : Entry) : Type 0 where
  pub object : Found
  pub unread : IsUnread found m e object
  pub len : e.len ≡ object.len

-- the entry that is being read has a word of this object left to read
pub record IsLive (found : ℕ → Option Found) (m : Marking) (f : Found) : Type 0 where
  pub entry : Entry
  pub current : m.current ≡ Some entry
  pub unread : IsUnread found m entry f

-- the words that the entry says stand on one page
abbrev pub StandsOnPage : Entry → Type 0
StandsOnPage e = e.base % PAGE_BYTES + WORD_BYTES * e.len ≤ PAGE_BYTES

-- This entry is on top of the stack. It is that of an object that stands on one page, and has all its words left to read.
pub record IsOnTop (pages : ℕ) (found : ℕ → Option Found) (m : Marking) (e : Entry) : Type 0 where
  pub object : Found
  pub is : e ≡ entry_of object
  pub below : List Entry
  pub stack : m.stack ≡ below ++ e ∷ []
  pub unread : IsUnread found m e object
  pub placed : IsPlaced pages object
  pub on_page : StandsOnPage e

-- each of these entries from number `known` on has a word left to read, of an object whose length it says
pub record AreUnreadFrom (found : ℕ → Option Found) (m : Marking) (known : ℕ) (es : List Entry) : Type 0 where
  pub each : (i : ℕ) (e : Entry) → known ≤ i → i < length es → slice_index_or es i e ≡ e → IsKnown found m e

-- Entries that have no word to read are dropped, the one that is being read first and then from the top of the stack.
-- The one that is then on top is the one that is being read; nothing else changes.
pub record Settles (found : ℕ → Option Found) (old new : Marking) : Type 0 where
  pub marks : new.marks ≡ old.marks
  pub dirty : new.dirty ≡ old.dirty
  pub carried : new.carried ≡ old.carried
  pub dropped : List Entry
  pub entries_are : entries old ≡ entries new ++ dropped
  pub spent : (e : Entry) → Contains dropped e → IsSpent found old e
  pub next : new.current ≡ None → new.stack ≡ []

-- the same with the entries of the stack in another order
pub record IsTurned (old new : Marking) : Type 0 where
  pub new_is : new ≡ with_stack old new.stack
  pub moves : IsPermutation old.stack new.stack

-- the two entries on top of a stack have changed places
pub record AreSwapped (old new : List Entry) : Type 0 where
  pub below : List Entry
  pub second : Entry
  pub top : Entry
  pub was : old ≡ (below ++ second ∷ []) ++ top ∷ []
  pub are : new ≡ (below ++ top ∷ []) ++ second ∷ []

-- An entry of the stack, wherever it stands there, is the one that is being read now. The one before it had no word left, and is dropped.
pub record Picks (found : ℕ → Option Found) (old new : Marking) : Type 0 where
  pub lower : List Entry
  pub entry : Entry
  pub upper : List Entry
  pub stack : old.stack ≡ lower ++ entry ∷ upper
  pub new_is : new ≡ with_current (with_stack old (lower ++ upper)) entry
  pub spent : (e : Entry) → old.current ≡ Some e → IsSpent found old e

-- The entries of the stack stand there in another order. The one that is being read has no word left.
pub record Turns (found : ℕ → Option Found) (old new : Marking) : Type 0 where
  pub turned : IsTurned old new
  pub spent : (e : Entry) → old.current ≡ Some e → IsSpent found old e

-- the entry once n more words of this object are read
abbrev pub read_on : Found → Entry → ℕ → Entry
read_on f e n = record { base = e.base; next = e.next + n; len = f.len }

-- The next n words of the entry that is being read, which stand on one page, are done with, and it goes on by n.
pub record ReadsOn (found : ℕ → Option Found) (words : List ℕ) (n : ℕ) (old new : Marking) : Type 0 where
  pub object : Found
  pub live : IsLive found old object
  pub fits : live.entry.next + n ≤ object.len
  pub mid : Marking
  pub reads : MarksWords found old (words_from words object live.entry.next n) mid
  pub page : ℕ
  pub one_page : (i : ℕ) → live.entry.next ≤ i → i < live.entry.next + n → page_of (word_address object i) ≡ page
  pub carried : List Bool
  pub carries : CarriesPage found (bytes_of old) (words_from words object live.entry.next n) page old.carried carried
  pub new_is : new ≡ with_current (with_carried mid carried) (read_on object live.entry n)

-- The same, where each word is read at one of these moments.
pub record ReadsIn (found : ℕ → Option Found) (moments : List (List ℕ)) (n : ℕ) (old new : Marking) : Type 0 where
  pub seen : List ℕ
  pub woven : IsWoven moments seen
  pub reads : ReadsOn found seen n old new

-- So many words are taken off the entries, each from the one that is being read and at one of the moments; entries that have no
-- word to read are dropped, and when the one that is being read has none, any other may be the next, and those that wait may change
-- places.
pub data Takes (found : ℕ → Option Found) (moments : List (List ℕ)) (old : Marking) : ℕ → Marking → Type 0 where
  nothing : Takes found moments old 0 old
  settled : {n : ℕ} {a b : Marking} → Takes found moments old n a → Settles found a b → Takes found moments old n b
  picked : {n : ℕ} {a b : Marking} → Takes found moments old n a → Picks found a b → Takes found moments old n b
  turned : {n : ℕ} {a b : Marking} → Takes found moments old n a → Turns found a b → Takes found moments old n b
  read : {n k : ℕ} {a b : Marking} → Takes found moments old n a → ReadsIn found moments k a b → Takes found moments old (n + k) b

-- So many words are taken off entries that wait, by reading their objects whole, where the entry that is being read has no word left.
-- Which one that is isn't looked at: whichever it was before, there is one that it may be then.
abbrev pub TakesWhole : (ℕ → Option Found) → List (List ℕ) → Marking → ℕ → Marking → Type 0
TakesWhole found moments old n new = (e : Entry) → IsSpent found old e → (last : Entry) × IsSpent found new last × Takes found moments (with_current old e) n (with_current new last)

-- the entries of a stack are still where they were
abbrev pub IsBelow : List Entry → List Entry → Type 0
IsBelow old new = (more : List Entry) × (new ≡ old ++ more)

-- The entry is there still, perhaps further on, and what the words that it went past point into is marked. If it was
-- being read it still is, and the entries below it stay where they are.
pub record WentOn (found : ℕ → Option Found) (words : List ℕ) (old new : Marking) (e : Entry) : Type 0 where
  pub now : Entry
  pub one : IsEntry new now
  pub base : now.base ≡ e.base
  pub further : e.next ≤ now.next
  pub read : (f : Found) → found f.base ≡ Some f → f.base ≡ e.base → (i : ℕ) → e.next ≤ i → i < now.next → IsTargetMarked found new (word_at words (word_address f i))
  pub first : old.current ≡ Some e → (new.current ≡ Some now) × IsBelow old.stack new.stack

-- The entry has no word left that has not been read, if its base is the base of a marked Normal object.
abbrev pub IsReadOut : (ℕ → Option Found) → List ℕ → Marking → Marking → Entry → Type 0
IsReadOut found words old new e = (f : Found) → found f.base ≡ Some f → f.base ≡ e.base → f.kind ≡ Normal → IsMarked old f.base
    → (i : ℕ) → e.next ≤ i → i < f.len → IsTargetMarked found new (word_at words (word_address f i))

-- What became of each entry: it is read on or waits, or it was read to its end.
abbrev pub TakesOff : (ℕ → Option Found) → List ℕ → Marking → Marking → Type 0
TakesOff found words old new = (e : Entry) → IsEntry old e → WentOn found words old new e ⊎ IsReadOut found words old new e
