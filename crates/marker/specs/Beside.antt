-- Marking while others write: the words on dirty pages are others from moment to moment.
use Rattle.std.specs.Prelude.{◌≡◌, ℕ, ◌+◌, ◌<◌, ◌≤◌, ◌⊎◌, Bool, List, length, Contains, Option, Some}
use Rattle.words.specs.declared.class.Kind.TheVariants.{Normal}
use Rattle.words.specs.Bits.{Has}
use Rattle.words.specs.Layout.{page_of}
use Rattle.pages.specs.Memory.{word_at}
use Rattle.pages.specs.Reads.{IsWoven}
use Rattle.block_map.specs.declared.found.Found.{Found}
use Rattle.block_map.specs.Objects.{IsPlaced}
use Rattle.marker.specs.Marking.{Marking, IsMarked, IsNewlyMarked, IsObjectGranule, Covers, bytes_of, with_carried, word_address}
use Rattle.marker.specs.Invariant.{DirtyPageInvariant, CarriedPageInvariant}
use Rattle.marker.specs.Growth.{MarksWords, CarriesPage, IsStray, words_from}

-- two memories have the same words of Normal objects on pages that aren't dirty
abbrev pub AgreeOff : (ℕ → Option Found) → List Bool → List ℕ → List ℕ → Type 0
AgreeOff found dirty a b = (f : Found) → found f.base ≡ Some f → f.kind ≡ Normal → (i : ℕ) → i < f.len → (Has dirty (page_of (word_address f i)) → ⊥) → word_at a (word_address f i) ≡ word_at b (word_address f i)

-- Beside a marker with these dirty pages no word of a Normal object is written but on them: any two of the moments agree off them.
-- The words of pointer-free objects may be written anywhere.
pub record AreBeside (found : ℕ → Option Found) (dirty : List Bool) (moments : List (List ℕ)) : Type 0 where
  pub same : (a b : List ℕ) → Contains moments a → Contains moments b → AgreeOff found dirty a b

-- no word of a Normal object is written on this page: at each moment it has the words that it has now
pub record IsStill (found : ℕ → Option Found) (words : List ℕ) (moments : List (List ℕ)) (page : ℕ) : Type 0 where
  pub same : (m : List ℕ) → Contains moments m → (f : Found) → found f.base ≡ Some f → f.kind ≡ Normal → (i : ℕ) → i < f.len → page_of (word_address f i) ≡ page → word_at m (word_address f i) ≡ word_at words (word_address f i)

-- The least set that holds the given objects, and with each Normal object every object that one of its words pointed into at one
-- of the moments.
pub data ClosureIn (found : ℕ → Option Found) (moments : List (List ℕ)) (given : ℕ → Type 0) : Found → Type 0 where
  given : {f : Found} → found f.base ≡ Some f → given f.base → ClosureIn found moments given f
  word : {p f : Found} (i : ℕ) (words : List ℕ) → Contains moments words → ClosureIn found moments given p → p.kind ≡ Normal → i < p.len → found (word_at words (word_address p i)) ≡ Some f → ClosureIn found moments given f

-- a stray word of a Normal object that the marks lead to stood on the page at one of the moments
pub record IsStrayPageIn (found : ℕ → Option Found) (moments : List (List ℕ)) (m : Marking) (p : ℕ) : Type 0 where
  pub object : Found
  pub is : found object.base ≡ Some object
  pub normal : object.kind ≡ Normal
  pub reached : ClosureIn found moments (IsMarked m) object
  pub index : ℕ
  pub inside : index < object.len
  pub on : page_of (word_address object index) ≡ p
  pub words : List ℕ
  pub moment : Contains moments words
  pub stray : IsStray found (bytes_of m) (word_at words (word_address object index))

-- So many words of an object with this base, from its word `first` on, lie in the heap and stand on one page.
pub record IsRow (pages base first count : ℕ) : Type 0 where
  pub object : Found
  pub at : object.base ≡ base
  pub placed : IsPlaced pages object
  pub fits : first + count ≤ object.len
  pub one_page : (i : ℕ) → first ≤ i → i < first + count → page_of (word_address object i) ≡ page_of (word_address object first)

-- What is done with words of an object that stand on one page, each read at one of the moments.
pub record MarksRow (found : ℕ → Option Found) (moments : List (List ℕ)) (f : Found) (first n bytes page : ℕ) (old new : Marking) : Type 0 where
  pub seen : List ℕ
  pub woven : IsWoven moments seen
  pub marks : MarksWords found old (words_from seen f first n) (with_carried new old.carried)
  pub carries : CarriesPage found bytes (words_from seen f first n) page old.carried new.carried

-- What a call of the marker does beside writers: whichever of the moments was before it and whichever is after it, it keeps the
-- invariants; it marks only objects, and only those to which the marks before and words of the moments lead, makes only pages of
-- newly marked objects dirty, and makes only pages carried on which a stray word stood. What may be written may be written still.
pub record TracesIn (found : ℕ → Option Found) (moments : List (List ℕ)) (old new : Marking) : Type 0 where
  pub marks_len : length new.marks ≡ length old.marks
  pub dirty_len : length new.dirty ≡ length old.dirty
  pub marks : (b : ℕ) → IsMarked old b → IsMarked new b
  pub objects : (k : ℕ) → Has new.marks k → Has old.marks k ⊎ IsObjectGranule found k
  pub within : (f : Found) → found f.base ≡ Some f → IsMarked new f.base → ClosureIn found moments (IsMarked old) f
  pub dirtied : (p : ℕ) → Has new.dirty p → Has old.dirty p ⊎ ((f : Found) × IsNewlyMarked found old new f × Covers f p)
  pub keeps : (before after : List ℕ) → Contains moments before → Contains moments after → DirtyPageInvariant found before old → DirtyPageInvariant found after new
  pub carried_len : length new.carried ≡ length old.carried
  pub carried : (p : ℕ) → Has old.carried p → Has new.carried p
  pub strays : (p : ℕ) → Has new.carried p → Has old.carried p ⊎ IsStrayPageIn found moments old p
  pub carries : (before after : List ℕ) → Contains moments before → Contains moments after → CarriedPageInvariant found before old → CarriedPageInvariant found after new
  pub beside : AreBeside found new.dirty moments
