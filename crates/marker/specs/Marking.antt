-- What contracts see of a marker.
use Rattle.std.specs.Prelude.{◌≡◌, ℕ, ◌+◌, ◌-◌, ◌*◌, ◌<◌, ◌≤◌, ◌++◌, Bool, List, [], length, Contains, Option, Some, None, option_to_list, ◌⊎◌}
use Rattle.words.specs.Bits.{Has, IsClear}
use Rattle.words.specs.declared.limits.TheConstants.{FIRST_ADDRESS, MARK_STACK_ENTRIES, MOST_PAGES, PAGE_BYTES, PAGE_GRANULES, WORD_BYTES}
use Rattle.words.specs.Layout.{granule, page_of}
use Rattle.block_map.specs.declared.found.Found.{Found}
use Rattle.marker.specs.declared.entry.Entry.{Entry}

-- The marks by granules, the dirty pages, the carried pages, the entry that is being read, and the other entries, the next one
-- last.
pub record Marking : Type 0 where
  pub marks : List Bool
  pub dirty : List Bool
  pub carried : List Bool
  pub current : Option Entry
  pub stack : List Entry

-- What is true of every marker: it has a mark for each granule of its pages, and no word of the stack's entries was read.
pub record IsConsistent (m : Marking) : Type 0 where
  pub marks : length m.marks ≡ PAGE_GRANULES * length m.dirty
  pub few : length m.dirty ≤ MOST_PAGES
  pub carried : length m.carried ≡ length m.dirty
  pub room : length m.stack ≤ MARK_STACK_ENTRIES
  pub unread : (e : Entry) → Contains m.stack e → e.next ≡ 0

-- the same with other dirty pages
abbrev pub with_dirty : Marking → List Bool → Marking
with_dirty m dirty = record { marks = m.marks; dirty = dirty; carried = m.carried; current = m.current; stack = m.stack }

-- the same with another entry that is being read
abbrev pub with_current : Marking → Entry → Marking
with_current m e = record { marks = m.marks; dirty = m.dirty; carried = m.carried; current = Some e; stack = m.stack }

-- the same with other carried pages
abbrev pub with_carried : Marking → List Bool → Marking
with_carried m carried = record { marks = m.marks; dirty = m.dirty; carried = carried; current = m.current; stack = m.stack }

-- the same with other entries that wait
abbrev pub with_stack : Marking → List Entry → Marking
with_stack m es = record { marks = m.marks; dirty = m.dirty; carried = m.carried; current = m.current; stack = es }

-- the address is none of so many bytes of a heap
abbrev pub IsOutside : ℕ → ℕ → Type 0
IsOutside bytes address = (address < FIRST_ADDRESS) ⊎ (FIRST_ADDRESS + bytes ≤ address)

-- how many bytes the heap of a marker has
abbrev pub bytes_of : Marking → ℕ
bytes_of m = PAGE_BYTES * length m.dirty

-- the address of the word i of an object
abbrev pub word_address : Found → ℕ → ℕ
word_address f i = f.base + WORD_BYTES * i

-- the page of an object's last byte
abbrev pub last_page : Found → ℕ
last_page f = page_of (f.base + WORD_BYTES * f.len - 1)

-- how many pages an object covers
abbrev pub pages_of : Found → ℕ
pages_of f = last_page f + 1 - page_of f.base

-- the page is one that the object covers
abbrev pub Covers : Found → ℕ → Type 0
Covers f p = (page_of f.base ≤ p) × (p ≤ last_page f)

-- the object with this base is marked
abbrev pub IsMarked : Marking → ℕ → Type 0
IsMarked m base = Has m.marks (granule base)

-- the granule is the first one of an object
pub record IsObjectGranule (found : ℕ → Option Found) (k : ℕ) : Type 0 where
  pub object : Found
  pub is : found object.base ≡ Some object
  pub first : granule object.base ≡ k

-- each mark is that of an object
abbrev pub AreMarksObjects : (ℕ → Option Found) → Marking → Type 0
AreMarksObjects found m = (k : ℕ) → Has m.marks k → IsObjectGranule found k

-- the object is marked now and was not before
abbrev pub IsNewlyMarked : (ℕ → Option Found) → Marking → Marking → Found → Type 0
IsNewlyMarked found old new f = (found f.base ≡ Some f) × (IsMarked old f.base → ⊥) × IsMarked new f.base

-- the page of the address is dirty
abbrev pub IsDirtyAt : Marking → ℕ → Type 0
IsDirtyAt m address = Has m.dirty (page_of address)

-- each dirty page has stayed dirty
abbrev pub StaysDirty : Marking → Marking → Type 0
StaysDirty old new = (p : ℕ) → Has old.dirty p → Has new.dirty p

-- all entries, the one that is being read last
abbrev pub entries : Marking → List Entry
entries m = m.stack ++ option_to_list m.current

-- one of the entries
abbrev pub IsEntry : Marking → Entry → Type 0
IsEntry m e = (m.current ≡ Some e) ⊎ Contains m.stack e

-- an entry still has the word i of the object with this base to read
pub record IsLeftToEntry (m : Marking) (base i : ℕ) : Type 0 where
  pub entry : Entry
  pub one : IsEntry m entry
  pub same : entry.base ≡ base
  pub left : entry.next ≤ i

-- no entry is left
pub record IsEmpty (m : Marking) : Type 0 where
  pub current : m.current ≡ None
  pub stack : m.stack ≡ []

-- no page is dirty
abbrev pub IsClean : Marking → Type 0
IsClean m = (p : ℕ) → Has m.dirty p → ⊥

-- no page is dirty and no entry is left
pub record IsDone (m : Marking) : Type 0 where
  pub clean : IsClean m
  pub empty : IsEmpty m

-- nothing is marked, no page is dirty or carried and no entry is left
pub record IsBlank (pages : ℕ) (m : Marking) : Type 0 where
  pub marks : IsClear m.marks (PAGE_GRANULES * pages)
  pub dirty : IsClear m.dirty pages
  pub carried : IsClear m.carried pages
  pub empty : IsEmpty m
