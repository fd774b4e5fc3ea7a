-- The objects that are left tell which links stay.
use Rattle.std.specs.Prelude.{◌≡◌, ℕ, ◌*◌, ◌+◌, ◌&&◌, ◌==◌, Bool, Option, Some, None, List, nat_le, nat_lt, if◌then◌else◌, length, slice_index}
use Rattle.std.specs.List.{list_any}
use Rattle.words.specs.declared.limits.TheConstants.{WORD_BYTES}
use Rattle.links.specs.declared.row.Link.{Link}
use Rattle.links.specs.Leaving.{word_index, loses_with}
use Rattle.plain_heap.specs.declared.extent.Extent.{Extent}
use Rattle.plain_heap.specs.PlainContents.{PlainContents}

-- whether one of the objects has the word at the address
abbrev pub holds_word : List Extent → ℕ → Bool
holds_word row a = list_any (λ e. nat_le e.base a && nat_lt a (e.base + WORD_BYTES * e.length)) row

-- whether one of the objects has the base
abbrev pub has_base : List Extent → ℕ → Bool
has_base row base = list_any (λ e. e.base == base) row

-- the word at an address, if one of the objects has it
abbrev pub word_of : PlainContents → ℕ → Option ℕ
word_of c a = if holds_word c.objects a then Some (slice_index c.words (word_index c.origin a)) else None

-- The word of the link is 0, if it has to become so, and all others are as they were.
pub record ClearsWord (origin : ℕ) (objects : List Extent) (l : Link) (old new : List ℕ) : Type 0 where
  pub size : length new ≡ length old
  pub words : (k : ℕ) → slice_index new k ≡ (if ((word_index origin l.address == k) && loses_with (holds_word objects) (has_base objects) l) then 0 else slice_index old k)
