-- A helper at work and at its end.
use Rattle.std.specs.Prelude.{◌≡◌, ℕ, ◌+◌, ◌*◌, ◌/◌, ◌%◌, ◌<◌, ◌≤◌, ◌↔◌, Bool, List, [], length, slice_index_or, slice_index, Contains, Some, ◌⊎◌, nat_lt, if◌then◌else◌}
use Rattle.std.specs.Int.{bit_at}
use Rattle.words.specs.declared.class.Kind.TheVariants.{Normal}
use Rattle.words.specs.Bits.{Has, IsClear}
use Rattle.words.specs.Layout.{granule, page_start}
use Rattle.mark_bits.specs.declared.claimer_view.ClaimerView.{ClaimerView}
use Rattle.mark_bits.specs.Tables.{view, IsOf}
use Rattle.mark_bits.specs.Claims.{HasPart, LearnsMore}
use Rattle.mark_bits.specs.declared.table.MarkTable.{MarkTable}
use Rattle.block_map.specs.declared.found.Found.{Found}
use Rattle.marker.specs.declared.entry.Entry.{Entry}
use Rattle.marker.specs.Marking.{IsMarked, entries, word_address}
use Rattle.marker.specs.Closure.{Closure}
use Rattle.marker.specs.Growth.{IsStrayPage}
use Rattle.final_pause.specs.declared.helper.Helper.{Helper}
use Rattle.final_pause.specs.declared.piece.Piece.{Piece}
use Rattle.final_pause.specs.declared.waiting.Unread.{Unread}
use Rattle.final_pause.specs.Pauses.{PauseView}
use Rattle.final_pause.specs.Dealing.{rank}
use Rattle.final_pause.specs.Helping.{IsHelperOf, IsTargetKnown, IsWordRead, IsAwaitedBy, IsPageOfWon, AreWon, found, won_of, turn_of, unread_of}

-- what the marks before and the roots reach
abbrev pub IsReachable : PauseView → Found → Type 0
IsReachable p f = Closure (found p) p.memory p.roots (IsMarked p.marker) f

-- a reached object begins at this granule
pub record IsReachedAt (p : PauseView) (k : ℕ) : Type 0 where
  pub object : Found
  pub is : found p object.base ≡ Some object
  pub first : granule object.base ≡ k
  pub reached : IsReachable p object

-- what waits is a reached Normal object
pub record IsQueued (p : PauseView) (o : Unread) : Type 0 where
  pub object : Found
  pub is : found p object.base ≡ Some object
  pub same : unread_of object ≡ o
  pub normal : object.kind ≡ Normal
  pub reached : IsReachable p object

-- A helper at work, between two objects. Each word of a Normal object that it won was read, or the helper will come to it, or
-- its page is dirty in the helper's row; on each page that it carries stands a stray word of a reached Normal object; and it won what
-- waits.
pub record IsServing (p : PauseView) (h : Helper) : Type 0 where
  pub fits : IsHelperOf p h
  pub part : HasPart (view h.claimer) (h.place + 1)
  pub won : (f : Found) → found p f.base ≡ Some f → f.kind ≡ Normal → Contains (won_of h) (granule f.base) → (i : ℕ) → i < f.len
      → IsWordRead p (view h.claimer) h.carried f i ⊎ IsAwaitedBy h f i
  pub dirtied : (q : ℕ) → Has h.dirty q → IsPageOfWon p h q
  pub strays : (q : ℕ) → Has h.carried q → IsStrayPage (found p) p.memory p.roots p.marker q
  pub queued : (o : Unread) → Contains h.waiting o → IsQueued p o
  pub within : (k : ℕ) → Contains (won_of h) k → IsReachedAt p k
  pub own : AreWon h

-- those of these words of an object were read of which the turn is the place's
abbrev pub AreTurnsRead : PauseView → ClaimerView → List Bool → ℕ → (ℕ → ℕ) → Found → ℕ → ℕ → Type 0
AreTurnsRead p v carried place turn f first past = (i : ℕ) → first ≤ i → i < past → turn i ≡ place → IsWordRead p v carried f i

-- the same where the object is that of the entry of a number
abbrev pub IsRunRead : PauseView → ClaimerView → List Bool → ℕ → ℕ → Found → ℕ → ℕ → Type 0
IsRunRead p v carried place number f first past = AreTurnsRead p v carried place (turn_of p number f) f first past

-- the place's part of the words that an entry had left was read, if it was one of a marked Normal object
abbrev pub IsEntryRead : PauseView → ClaimerView → List Bool → ℕ → ℕ → Entry → Type 0
IsEntryRead p v carried place number e = (f : Found) → found p f.base ≡ Some f → f.base ≡ e.base → f.kind ≡ Normal → IsMarked p.marker f.base
    → IsRunRead p v carried place number f e.next f.len

-- what the root words of a place point into, among the first n, is known to be marked
abbrev pub AreRootsRead : PauseView → ClaimerView → ℕ → ℕ → Type 0
AreRootsRead p v place n = (i : ℕ) → i < n → i % p.helpers ≡ place → IsTargetKnown p v (slice_index p.roots i)

-- the place's parts of the first n entries were read
abbrev pub AreEntriesRead : PauseView → ClaimerView → List Bool → ℕ → ℕ → Type 0
AreEntriesRead p v carried place n = (i : ℕ) (d : Entry) → i < n → IsEntryRead p v carried place i (slice_index_or (entries p.marker) i d)

-- The number by which it is told whose turn it is: on the first 256 dirty pages what begins within 256 bytes has one, and each further
-- page has one.
abbrev pub turn_number : ℕ → ℕ → ℕ
turn_number number g = if nat_lt number 256 then number + g / 16 else number

-- the turn of what begins at a granule, on the dirty page of a number, is the place's
abbrev pub IsTurnAt : PauseView → ℕ → ℕ → ℕ → Type 0
IsTurnAt p place number g = turn_number number g % p.helpers ≡ place

-- the turn of an object on the dirty page of a number is the place's
abbrev pub IsTurn : PauseView → ℕ → ℕ → Found → Type 0
IsTurn p place number f = IsTurnAt p place number (granule f.base)

-- the ones of a word are those of the 64 granules from 64 j on that were marked before and of which the turn is the place's
pub record AreOwnMarks (p : PauseView) (place number j word : ℕ) : Type 0 where
  pub own : (k : ℕ) → k < 64 → (bit_at word k ≡ 1) ↔ (Has p.marker.marks (64 * j + k) × IsTurnAt p place number (64 * j + k))

-- the words between two addresses were read, if they are words of Normal objects that were marked before, whose turn is the place's
abbrev pub AreWordsRead : PauseView → ClaimerView → List Bool → ℕ → ℕ → ℕ → ℕ → Type 0
AreWordsRead p v carried place number low high = (f : Found) → found p f.base ≡ Some f → f.kind ≡ Normal → IsMarked p.marker f.base → IsTurn p place number f
    → (i : ℕ) → i < f.len → low ≤ word_address f i → word_address f i < high → IsWordRead p v carried f i

-- the words of a piece were read, if its object is a Normal one that was marked before, whose turn is the place's
abbrev pub IsPieceRead : PauseView → ClaimerView → List Bool → ℕ → ℕ → Piece → Type 0
IsPieceRead p v carried place number w = w.found.kind ≡ Normal → IsMarked p.marker w.found.base → IsTurn p place number w.found
    → (i : ℕ) → w.first ≤ i → i < w.first + w.count → IsWordRead p v carried w.found i

-- the same for the words of the dirty page of a number
abbrev pub IsPageRead : PauseView → ClaimerView → List Bool → ℕ → ℕ → ℕ → Type 0
IsPageRead p v carried place number page = AreWordsRead p v carried place number (page_start page) (page_start (page + 1))

-- the words of the Normal objects that were marked before, begin at these granules and whose turn is the place's were read
abbrev pub AreObjectsRead : PauseView → ClaimerView → List Bool → ℕ → ℕ → ℕ → ℕ → Type 0
AreObjectsRead p v carried place number low past = (f : Found) → found p f.base ≡ Some f → f.kind ≡ Normal → IsMarked p.marker f.base → IsTurn p place number f
    → low ≤ granule f.base → granule f.base < past → (i : ℕ) → i < f.len → IsWordRead p v carried f i

-- the place's parts of the dirty ones of the first n pages were read
abbrev pub ArePagesRead : PauseView → ClaimerView → List Bool → ℕ → ℕ → Type 0
ArePagesRead p v carried place n = (page : ℕ) → page < n → Has p.marker.dirty page → IsPageRead p v carried place (rank p.marker.dirty page) page

-- The place's root words, and its parts of the entries and of the dirty pages, were read. Root word i is that of the place i modulo the
-- number of helpers.
pub record IsShareRead (p : PauseView) (v : ClaimerView) (carried : List Bool) (place : ℕ) : Type 0 where
  pub roots : AreRootsRead p v place (length p.roots)
  pub entries : AreEntriesRead p v carried place (length (entries p.marker))
  pub pages : ArePagesRead p v carried place (length p.map)

-- The helper of a place that is done: it serves, nothing waits, and its share is read; so each word of a Normal object
-- that it won was read, or stands on a dirty page of its row.
pub record HasServed (p : PauseView) (place : ℕ) (h : Helper) : Type 0 where
  pub serving : IsServing p h
  pub here : h.place ≡ place
  pub empty : h.waiting ≡ []
  pub read : IsShareRead p (view h.claimer) h.carried place

-- a helper at work goes on, and keeps its place
pub record GoesOnServing (p : PauseView) (old new : Helper) : Type 0 where
  pub serving : IsServing p new
  pub place : new.place ≡ old.place
  pub learns : LearnsMore (view old.claimer) (view new.claimer)
  pub carried : (q : ℕ) → Has old.carried q → Has new.carried q

-- one of the helpers of a table, of a heap of so many pages, which has won and read nothing yet
pub record IsHired (t : MarkTable) (pages : ℕ) (h : Helper) : Type 0 where
  pub of : IsOf t h.claimer
  pub part : HasPart (view h.claimer) (h.place + 1)
  pub none_won : won_of h ≡ []
  pub dirty : IsClear h.dirty pages
  pub carried : IsClear h.carried pages
  pub no_entry : h.waiting ≡ []
