-- What a helper of a pause does with a word.
use Rattle.std.specs.Prelude.{◌≡◌, ℕ, zero, suc, ◌+◌, ◌-◌, ◌*◌, ◌/◌, ◌%◌, ◌<◌, ◌≤◌, ◌==◌, nat_lt, Bool, true, List, length, Contains, Option, Some, ◌⊎◌, if◌then◌else◌}
use Rattle.std.specs.List.{filter}
use Rattle.words.specs.declared.class.Kind.TheVariants.{Normal}
use Rattle.words.specs.declared.limits.TheConstants.{MOST_PAGES, PAGE_BYTES, PAGE_GRANULES, PAGE_WORDS}
use Rattle.words.specs.Bits.{Has}
use Rattle.words.specs.Layout.{page_of, granule}
use Rattle.mark_bits.specs.declared.claimer_view.ClaimerView.{ClaimerView}
use Rattle.mark_bits.specs.Tables.{view, start_of, granules_of, IsOf}
use Rattle.mark_bits.specs.Claims.{knows, LearnsMore}
use Rattle.pages.specs.Memory.{word_at}
use Rattle.block_map.specs.declared.found.Found.{Found}
use Rattle.block_map.specs.Objects.{IsMap}
use Rattle.block_map.specs.FoundIn.{found_in}
use Rattle.marker.specs.Marking.{Covers, bytes_of, word_address}
use Rattle.marker.specs.Growth.{IsStray}
use Rattle.final_pause.specs.declared.helper.Helper.{Helper}
use Rattle.final_pause.specs.declared.waiting.Unread.{Unread}
use Rattle.final_pause.specs.Pauses.{PauseView}

-- the object that a word points into
abbrev pub found : PauseView → ℕ → Option Found
found p = found_in p.map

-- the word i of an object
abbrev pub word_in : PauseView → Found → ℕ → ℕ
word_in p f i = word_at p.memory (word_address f i)

-- the turn of a word by where it points: of 64 spans of 16 KB in a row each helper has a part
abbrev pub span_turn : PauseView → ℕ → ℕ
span_turn p w = (p.helpers * ((w / (4 * PAGE_BYTES)) % 64)) / 64

-- the turn of the word i of an object by where it stands: by a number and its page, counted from the object's first
abbrev pub page_turn : PauseView → ℕ → Found → ℕ → ℕ
page_turn p number f i = (number + (page_of (word_address f i) - page_of f.base)) % p.helpers

-- the turn of the word i of the object of the entry of a number: by where it points, if the object is longer than a page
abbrev pub turn_of : PauseView → ℕ → Found → ℕ → ℕ
turn_of p number f i = if nat_lt PAGE_WORDS f.len then span_turn p (word_in p f i) else page_turn p number f i

-- those of the words that have the place's turn by where they point
abbrev pub own_words : PauseView → ℕ → List ℕ → List ℕ
own_words p place ws = filter (λ w. span_turn p w == place) ws

-- a word points into the object
pub record IsObjectOf (p : PauseView) (f : Found) : Type 0 where
  pub word : ℕ
  pub points : found p word ≡ Some f

-- the helper's place among those of its round
abbrev pub place_of : Helper → ℕ
place_of h = h.place

-- the granules that the helper won
abbrev pub won_of : Helper → List ℕ
won_of h = (view h.claimer).won

-- What is true of each pause while helpers are at work: the table began with the marker's marks, it has the mark of each object, and
-- marks, dirty pages and memory are those of the map's pages.
pub record IsReadyPause (p : PauseView) : Type 0 where
  pub start : start_of p.table ≡ p.marker.marks
  pub granules : length (start_of p.table) ≡ PAGE_GRANULES * length p.map
  pub pages : length p.marker.dirty ≡ length p.map
  pub few : length p.map ≤ MOST_PAGES
  pub memory : length p.memory ≡ PAGE_WORDS * length p.map
  pub some : 0 < p.helpers
  pub map : IsMap (length p.map) (found p)
  pub room : (f : Found) → found p f.base ≡ Some f → granule f.base < granules_of p.table

-- the helper is one of this pause
pub record IsHelperOf (p : PauseView) (h : Helper) : Type 0 where
  pub ready : IsReadyPause p
  pub of : IsOf p.table h.claimer
  pub dirty : length h.dirty ≡ length p.map
  pub carried : length h.carried ≡ length p.map

-- the object that the word points into, if any, is known to be marked
abbrev pub IsTargetKnown : PauseView → ClaimerView → ℕ → Type 0
IsTargetKnown p v w = (g : Found) → found p w ≡ Some g → knows v (granule g.base) ≡ true

-- the word i of the object is stray
abbrev pub IsStrayIn : PauseView → Found → ℕ → Type 0
IsStrayIn p f i = IsStray (found p) (bytes_of p.marker) (word_in p f i)

-- the word i of the object was read: what it points into is known to be marked, and if it is stray its page is carried
pub record IsWordRead (p : PauseView) (v : ClaimerView) (carried : List Bool) (f : Found) (i : ℕ) : Type 0 where
  pub known : IsTargetKnown p v (word_in p f i)
  pub settled : IsStrayIn p f i → Has carried (page_of (word_address f i))

-- a stray word of the object stands on the page
pub record HasStrayOn (p : PauseView) (f : Found) (q : ℕ) : Type 0 where
  pub index : ℕ
  pub inside : index < f.len
  pub on : page_of (word_address f index) ≡ q
  pub stray : IsStrayIn p f index

-- the object as it waits
abbrev pub unread_of : Found → Unread
unread_of f = record { base = f.base; len = f.len }

-- the word i of the object will be read: by this helper, or after the join
abbrev pub IsAwaitedBy : Helper → Found → ℕ → Type 0
IsAwaitedBy h f i = Has h.dirty (page_of (word_address f i)) ⊎ Contains h.waiting (unread_of f)

-- the helper won the objects that wait
abbrev pub AreWon : Helper → Type 0
AreWon h = (o : Unread) → Contains h.waiting o → Contains (won_of h) (granule o.base)

-- the page is one of an object that the helper won
abbrev pub IsPageOfWon : PauseView → Helper → ℕ → Type 0
IsPageOfWon p h q = (f : Found) × (found p f.base ≡ Some f) × Contains (won_of h) (granule f.base) × Covers f q

-- an object waits to be read, and nothing else has changed
pub record QueuesObject (f : Found) (old new : Helper) : Type 0 where
  pub claimer : new.claimer ≡ old.claimer
  pub place : new.place ≡ old.place
  pub carried : new.carried ≡ old.carried
  pub dirty_len : length new.dirty ≡ length old.dirty
  pub dirty : (q : ℕ) → Has old.dirty q → Has new.dirty q
  pub covered : (q : ℕ) → Has new.dirty q → Has old.dirty q ⊎ Covers f q
  pub waiting : (o : Unread) → Contains old.waiting o → Contains new.waiting o
  pub awaited : f.kind ≡ Normal → (i : ℕ) → i < f.len → IsAwaitedBy new f i
  pub entries : (o : Unread) → Contains new.waiting o → Contains old.waiting o ⊎ ((o ≡ unread_of f) × (f.kind ≡ Normal))
  pub size : length new.waiting ≤ length old.waiting + 1

-- 1 for a granule that isn't known to be marked, and 0 for one that is
abbrev pub unseen : Bool → ℕ
unseen b = if b then 0 else 1

-- how many of the first n granules the claimer doesn't know to be marked
abbrev pub unknown : ℕ → ClaimerView → ℕ
unknown zero v = 0
unknown (suc n) v = unseen (knows v n) + unknown n v

-- what bounds the objects that the helper will read yet
abbrev pub reads_left : PauseView → Helper → ℕ
reads_left p h = 2 * unknown (length (start_of p.table)) (view h.claimer) + length h.waiting

-- What the helper knows, its rows of pages and its entries only grow; each word of a newly won object is awaited, only pages of
-- these have become dirty, and it won what waits, if it had won what waited.
pub record HelperGrows (p : PauseView) (old new : Helper) : Type 0 where
  pub of : IsOf p.table new.claimer
  pub place : new.place ≡ old.place
  pub learns : LearnsMore (view old.claimer) (view new.claimer)
  pub won : (k : ℕ) → Contains (won_of old) k → Contains (won_of new) k
  pub dirty_len : length new.dirty ≡ length old.dirty
  pub dirty : (q : ℕ) → Has old.dirty q → Has new.dirty q
  pub dirtied : (q : ℕ) → Has new.dirty q → Has old.dirty q ⊎ IsPageOfWon p new q
  pub carried_len : length new.carried ≡ length old.carried
  pub carried : (q : ℕ) → Has old.carried q → Has new.carried q
  pub waiting : (o : Unread) → Contains old.waiting o → Contains new.waiting o
  pub fresh : (f : Found) → found p f.base ≡ Some f → Contains (won_of new) (granule f.base)
      → Contains (won_of old) (granule f.base) ⊎ (f.kind ≡ Normal → (i : ℕ) → i < f.len → IsAwaitedBy new f i)
  pub own : AreWon old → AreWon new
  pub left : reads_left p new ≤ reads_left p old

-- one of these words points into an object
pub record IsPointedInto (p : PauseView) (P : ℕ → Type 0) (object : Found) : Type 0 where
  pub word : ℕ
  pub one : P word
  pub points : found p word ≡ Some object

-- only objects that one of these words points into were won, and wait
pub record ClaimsOnly (p : PauseView) (P : ℕ → Type 0) (old new : Helper) : Type 0 where
  pub won : (k : ℕ) → Contains (won_of new) k → Contains (won_of old) k ⊎ ((f : Found) × IsPointedInto p P f × (granule f.base ≡ k))
  pub entries : (o : Unread) → Contains new.waiting o → Contains old.waiting o ⊎ ((f : Found) × IsPointedInto p P f × (unread_of f ≡ o) × (f.kind ≡ Normal))

-- what the word points into is known to be marked, nothing else was won, and no page has become carried
pub record Visits (p : PauseView) (w : ℕ) (old new : Helper) : Type 0 where
  pub extends : HelperGrows p old new
  pub carried : new.carried ≡ old.carried
  pub target : IsTargetKnown p (view new.claimer) w
  pub only : ClaimsOnly p (λ v. v ≡ w) old new

-- what these words point into is known to be marked, nothing else was won, and no page has become carried
pub record VisitsAll (p : PauseView) (ws : List ℕ) (old new : Helper) : Type 0 where
  pub extends : HelperGrows p old new
  pub carried : new.carried ≡ old.carried
  pub targets : (w : ℕ) → Contains ws w → IsTargetKnown p (view new.claimer) w
  pub only : ClaimsOnly p (λ w. Contains ws w) old new

-- the word is one of the object
abbrev pub IsWordOf : PauseView → Found → ℕ → Type 0
IsWordOf p f w = (i : ℕ) × (i < f.len) × (w ≡ word_in p f i)

-- so many words from an address on are words of the object, from its word `first` on, and stand on one page
pub record IsRowOf (p : PauseView) (f : Found) (first start count : ℕ) : Type 0 where
  pub is : found p f.base ≡ Some f
  pub at : start ≡ word_address f first
  pub inside : first + count ≤ f.len
  pub one_page : (i : ℕ) → first ≤ i → i < first + count → page_of (word_address f i) ≡ page_of start

-- n words of an object were read, from its word `first` on; nothing else was won, and only their pages have become carried
pub record ReadsWords (p : PauseView) (f : Found) (first n : ℕ) (old new : Helper) : Type 0 where
  pub extends : HelperGrows p old new
  pub read : (i : ℕ) → first ≤ i → i < first + n → IsWordRead p (view new.claimer) new.carried f i
  pub strays : (q : ℕ) → Has new.carried q → Has old.carried q ⊎ HasStrayOn p f q
  pub only : ClaimsOnly p (IsWordOf p f) old new

-- the same, where of these words those were read that have the helper's turn by where they point
pub record ReadsOwn (p : PauseView) (f : Found) (first n : ℕ) (old new : Helper) : Type 0 where
  pub extends : HelperGrows p old new
  pub read : (i : ℕ) → first ≤ i → i < first + n → span_turn p (word_in p f i) ≡ old.place → IsWordRead p (view new.claimer) new.carried f i
  pub strays : (q : ℕ) → Has new.carried q → Has old.carried q ⊎ HasStrayOn p f q
  pub only : ClaimsOnly p (IsWordOf p f) old new
