-- What is done with words that are read.
use Rattle.std.specs.Prelude.{◌≡◌, ℕ, ◌+◌, ◌<◌, ◌≤◌, Bool, true, false, List, [], ◌∷◌, ◌++◌, length, map, slice_set, Contains, Option, Some, None, ◌⊎◌}
use Rattle.std.specs.List.{range_with_len}
use Rattle.words.specs.declared.class.Kind.TheVariants.{Normal, PointerFree}
use Rattle.words.specs.declared.limits.TheConstants.{FIRST_ADDRESS, MARK_STACK_ENTRIES}
use Rattle.words.specs.Bits.{Has}
use Rattle.words.specs.Layout.{granule, page_of}
use Rattle.pages.specs.Memory.{word_at}
use Rattle.block_map.specs.declared.found.Found.{Found}
use Rattle.marker.specs.declared.entry.Entry.{Entry}
use Rattle.marker.specs.Marking.{Marking, IsMarked, IsNewlyMarked, IsObjectGranule, IsOutside, bytes_of, Covers, last_page, word_address}
use Rattle.marker.specs.Invariant.{DirtyPageInvariant, CarriedPageInvariant, IsTargetMarked}
use Rattle.marker.specs.Closure.{Closure}

-- The pages from `first` on, up to `end`, have become dirty, and no others.
pub record IsDirtied (old new : List Bool) (first end : ℕ) : Type 0 where
  pub len : length new ≡ length old
  pub inside : (p : ℕ) → first ≤ p → p < end → Has new p
  pub more : (p : ℕ) → Has old p → Has new p
  pub others : (p : ℕ) → Has new p → Has old p ⊎ ((first ≤ p) × (p < end))

-- the entry of an object from its word 0 on
abbrev pub entry_of : Found → Entry
entry_of f = record { base = f.base; next = 0; len = f.len }

-- What is done so that the words of a newly marked object are read, one of three: nothing, since they point into none;
-- its entry goes on top of the stack; or, where the stack is full, the pages that it covers become dirty.
pub data Awaits (f : Found) (old new : Marking) : Type 0 where
  pointer_free : f.kind ≡ PointerFree → new.stack ≡ old.stack → new.dirty ≡ old.dirty → Awaits f old new
  pushed : f.kind ≡ Normal → length old.stack < MARK_STACK_ENTRIES → new.stack ≡ old.stack ++ entry_of f ∷ [] → new.dirty ≡ old.dirty → Awaits f old new
  dirtied : f.kind ≡ Normal → length old.stack ≡ MARK_STACK_ENTRIES → new.stack ≡ old.stack → IsDirtied old.dirty new.dirty (page_of f.base) (last_page f + 1) → Awaits f old new

-- An unmarked object has become marked, and nothing else has changed but what is done for its words.
pub record MarksObject (f : Found) (old new : Marking) : Type 0 where
  pub unmarked : IsMarked old f.base → ⊥
  pub marks : new.marks ≡ slice_set old.marks (granule f.base) true
  pub carried : new.carried ≡ old.carried
  pub current : new.current ≡ old.current
  pub awaits : Awaits f old new

-- What is done with a word: the object that it points into becomes marked, if it is not.
pub data MarksWord (found : ℕ → Option Found) (w : ℕ) (old new : Marking) : Type 0 where
  nothing : IsTargetMarked found old w → new ≡ old → MarksWord found w old new
  object : (f : Found) → found w ≡ Some f → MarksObject f old new → MarksWord found w old new

-- What is done with words, in their order.
pub data MarksWords (found : ℕ → Option Found) (old : Marking) : List ℕ → Marking → Type 0 where
  begun : MarksWords found old [] old
  and_word : {ws : List ℕ} {w : ℕ} {m new : Marking} → MarksWords found old ws m → MarksWord found w m new → MarksWords found old (ws ++ w ∷ []) new

-- The first of some words are done with, and these are left.
pub record MarksFirst (found : ℕ → Option Found) (old : Marking) (words left : List ℕ) (new : Marking) : Type 0 where
  pub done : List ℕ
  pub parts : words ≡ done ++ left
  pub marks : MarksWords found old done new

-- the word is stray: it lies in a heap of so many bytes and points into no object
pub record IsStray (found : ℕ → Option Found) (bytes w : ℕ) : Type 0 where
  pub nothing : found w ≡ None
  pub from : FIRST_ADDRESS ≤ w
  pub below : w < FIRST_ADDRESS + bytes

-- the word is not: it points into an object or lies outside of the heap
abbrev pub IsNoStray : (ℕ → Option Found) → ℕ → ℕ → Type 0
IsNoStray found bytes w = ((g : Found) × (found w ≡ Some g)) ⊎ IsOutside bytes w

-- whether one of these words is stray
pub record TellsStray (found : ℕ → Option Found) (bytes : ℕ) (ws : List ℕ) (b : Bool) : Type 0 where
  pub some : b ≡ true → (w : ℕ) × Contains ws w × IsStray found bytes w
  pub none : b ≡ false → (w : ℕ) → Contains ws w → IsNoStray found bytes w

-- The same of the first of some words, where these are left.
pub record TellsFirst (found : ℕ → Option Found) (bytes : ℕ) (words left : List ℕ) (b : Bool) : Type 0 where
  pub done : List ℕ
  pub parts : words ≡ done ++ left
  pub tells : TellsStray found bytes done b

-- The page on which these words stand has become carried, if one of them is stray, and no other.
pub record CarriesPage (found : ℕ → Option Found) (bytes : ℕ) (ws : List ℕ) (page : ℕ) (old new : List Bool) : Type 0 where
  pub len : length new ≡ length old
  pub stays : (p : ℕ) → Has old p → Has new p
  pub only : (p : ℕ) → Has new p → Has old p ⊎ ((p ≡ page) × ((w : ℕ) × Contains ws w × IsStray found bytes w))
  pub all : (w : ℕ) → Contains ws w → Has new page ⊎ IsNoStray found bytes w

-- a stray word of a Normal object that the marks and the roots lead to stands on the page
pub record IsStrayPage (found : ℕ → Option Found) (words roots : List ℕ) (m : Marking) (p : ℕ) : Type 0 where
  pub object : Found
  pub is : found object.base ≡ Some object
  pub normal : object.kind ≡ Normal
  pub reached : Closure found words roots (IsMarked m) object
  pub index : ℕ
  pub inside : index < object.len
  pub on : page_of (word_address object index) ≡ p
  pub stray : IsStray found (bytes_of m) (word_at words (word_address object index))

-- n words of an object from its word `first` on
abbrev pub words_from : List ℕ → Found → ℕ → ℕ → List ℕ
words_from words f first n = map (λ i. word_at words (word_address f i)) (range_with_len first n)

-- What a call of the marker does: it keeps the invariant, marks only objects, and only those of the closure of the marks
-- before and the roots, makes only pages of newly marked objects dirty, and makes only pages carried on which a stray word stands.
pub record Traces (found : ℕ → Option Found) (words roots : List ℕ) (old new : Marking) : Type 0 where
  pub marks_len : length new.marks ≡ length old.marks
  pub dirty_len : length new.dirty ≡ length old.dirty
  pub marks : (b : ℕ) → IsMarked old b → IsMarked new b
  pub objects : (k : ℕ) → Has new.marks k → Has old.marks k ⊎ IsObjectGranule found k
  pub within : (f : Found) → found f.base ≡ Some f → IsMarked new f.base → Closure found words roots (IsMarked old) f
  pub dirtied : (p : ℕ) → Has new.dirty p → Has old.dirty p ⊎ ((f : Found) × IsNewlyMarked found old new f × Covers f p)
  pub keeps : DirtyPageInvariant found words old → DirtyPageInvariant found words new
  pub carried_len : length new.carried ≡ length old.carried
  pub carried : (p : ℕ) → Has old.carried p → Has new.carried p
  pub strays : (p : ℕ) → Has new.carried p → Has old.carried p ⊎ IsStrayPage found words roots old p
  pub carries : CarriedPageInvariant found words old → CarriedPageInvariant found words new
