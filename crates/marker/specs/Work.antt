-- How many heap words a marker may still have to read.
use Rattle.std.specs.Prelude.{ℕ, ◌+◌, ◌-◌, ◌*◌, ◌==◌, Bool, true, false, List, [], ◌∷◌, Option, Some, None, sum_by, count_by, if◌then◌else◌}
use Rattle.words.specs.declared.class.Kind.{Kind}
use Rattle.words.specs.declared.class.Kind.TheVariants.{Normal, PointerFree}
use Rattle.words.specs.declared.limits.TheConstants.{FIRST_ADDRESS, GRANULE_BYTES, PAGE_WORDS}
use Rattle.block_map.specs.declared.found.Found.{Found}
use Rattle.marker.specs.declared.entry.Entry.{Entry}
use Rattle.marker.specs.Marking.{Marking, pages_of}

-- how many of n words of an object are read: all of a Normal one's, and none of a pointer-free one's
abbrev pub read_of : Kind → ℕ → ℕ
read_of Normal n = n
read_of PointerFree n = 0

-- the words that an entry has left in this object, if its base is the entry's
abbrev pub left_in : Option Found → Entry → ℕ
left_in None e = 0
left_in (Some f) e = if f.base == e.base then read_of f.kind (f.len - e.next) else 0

-- The words that an entry has left: those up to the end of the Normal object that has its base now, marked or not, and
-- none if there is no such object. An entry whose object was freed comes to life when its base is a Normal object's
-- again.
unfoldable pub left : (ℕ → Option Found) → Entry → ℕ
left found e = left_in (found e.base) e

-- the words that the entry being read has left, and 0 if there is none
abbrev pub left_of : (ℕ → Option Found) → Option Entry → ℕ
left_of found None = 0
left_of found (Some e) = left found e

-- the words that all entries have left
abbrev pub entry_words : (ℕ → Option Found) → Marking → ℕ
entry_words found m = left_of found m.current + sum_by (left found) m.stack

-- the number of pages that the object covers, if its base is this one
abbrev pub span_in : Option Found → ℕ → ℕ
span_in None base = 0
span_in (Some f) base = if f.base == base then pages_of f else 0

-- the number of pages that the object covers whose base is the granule k, and 0 if there is none
unfoldable pub span : (ℕ → Option Found) → ℕ → ℕ
span found k = span_in (found (FIRST_ADDRESS + GRANULE_BYTES * k)) (FIRST_ADDRESS + GRANULE_BYTES * k)

-- the sum over unmarked objects of the pages that each covers, in a row of marks that begins at the granule k
unfoldable pub unmarked_from : (ℕ → Option Found) → ℕ → List Bool → ℕ
unmarked_from found k [] = 0
unmarked_from found k (true ∷ row) = unmarked_from found (k + 1) row
unmarked_from found k (false ∷ row) = span found k + unmarked_from found (k + 1) row

-- the sum over all unmarked objects of the pages that each covers
abbrev pub unmarked : (ℕ → Option Found) → Marking → ℕ
unmarked found m = unmarked_from found 0 m.marks

-- the sum over newly marked objects of the pages that each covers, in rows that begin at the granule k
unfoldable pub newly_from : (ℕ → Option Found) → ℕ → List Bool → List Bool → ℕ
newly_from found k [] new = 0
newly_from found k (a ∷ old) [] = 0
newly_from found k (true ∷ old) (b ∷ new) = newly_from found (k + 1) old new
newly_from found k (false ∷ old) (false ∷ new) = newly_from found (k + 1) old new
newly_from found k (false ∷ old) (true ∷ new) = span found k + newly_from found (k + 1) old new

-- the sum over all newly marked objects of the pages that each covers
abbrev pub newly_pages : (ℕ → Option Found) → Marking → Marking → ℕ
newly_pages found old new = newly_from found 0 old.marks new.marks

-- the number of dirty pages
abbrev pub dirty_pages : Marking → ℕ
dirty_pages m = count_by (λ b. b) m.dirty

-- a page's words if it is dirty, and else none
abbrev pub page_words : Bool → ℕ
page_words b = if b then PAGE_WORDS else 0

-- The words that the marker may still have to read: those of dirty pages, those that entries have left, and those of
-- the pages of objects that are not marked yet.
unfoldable pub cost : (ℕ → Option Found) → Marking → ℕ
cost found m = sum_by page_words m.dirty + entry_words found m + PAGE_WORDS * unmarked found m
