-- Objects that are begun together.
use Rattle.std.specs.Prelude.{◌≡◌, ℕ, ◌<◌, List, length, map, reverse, sum_by, slice_index_or, Contains, Option}
use Rattle.words.specs.Layout.{page_of}
use Rattle.pages.specs.Memory.{word_at}
use Rattle.pages.specs.Reads.{IsWoven}
use Rattle.block_map.specs.declared.found.Found.{Found}
use Rattle.block_map.specs.Objects.{IsPlaced}
use Rattle.marker.specs.declared.entry.Entry.{Entry}
use Rattle.marker.specs.declared.together.Begun.{Begun}
use Rattle.marker.specs.Marking.{Marking, word_address}
use Rattle.marker.specs.Entries.{IsUnread}

-- the entry of a begun object, as it stood on the stack
abbrev pub entry_begun : Begun → Entry
entry_begun b = record { base = b.base; next = 0; len = b.len }

-- the entries of begun objects, as they stood on the stack: the first one begun was on top
abbrev pub entries_begun : List Begun → List Entry
entries_begun bs = reverse (map entry_begun bs)

-- the words of begun objects
abbrev pub words_begun : List Begun → ℕ
words_begun bs = sum_by (λ (b : Begun). b.len) bs

-- this is the word at the address, as it was at one of the moments
abbrev pub IsSeen : List (List ℕ) → ℕ → ℕ → Type 0
IsSeen moments address w = (seen : List ℕ) × IsWoven moments seen × (w ≡ word_at seen address)

-- All words of this object are left to read, and stand on one page.
pub record IsBegun (pages : ℕ) (found : ℕ → Option Found) (m : Marking) (b : Begun) : Type 0 where
  pub object : Found
  pub unread : IsUnread found m (entry_begun b) object
  pub len : b.len ≡ object.len
  pub placed : IsPlaced pages object
  pub one_page : (i : ℕ) → i < object.len → page_of (word_address object i) ≡ page_of (word_address object 0)

-- no object
abbrev pub none_begun : Begun
none_begun = record { base = 0; len = 0 }

-- each of these objects is begun
abbrev pub AreBegun : ℕ → (ℕ → Option Found) → Marking → List Begun → Type 0
AreBegun pages found m bs = (b : Begun) → Contains bs b → IsBegun pages found m b

-- these are the first words of begun objects
pub record AreFirsts (moments : List (List ℕ)) (bs : List Begun) (ws : List ℕ) : Type 0 where
  pub size : length ws ≡ length bs
  pub each : (k : ℕ) → k < length bs → IsSeen moments (slice_index_or bs k none_begun).base (slice_index_or ws k 0)
