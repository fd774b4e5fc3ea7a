-- What goes takes its links along.
use Rattle.std.specs.Prelude.{◌≡◌, ℕ, ◌&&◌, ◌==◌, not, Bool, false, is_some, List, slice_index, Option, Some, None, if◌then◌else◌, length}
use Rattle.std.specs.List.{list_any}
use Rattle.pages.specs.Memory.{word_index}
use Rattle.block_map.specs.declared.found.Found.{Found}
use Rattle.links.specs.declared.row.Link.{Link}
use Rattle.object_space.specs.Store.{Store}

-- whether a kept object has the word
abbrev pub is_kept_at : (ℕ → Option Found) → ℕ → Bool
is_kept_at kept w = is_some (kept w)

-- the object has the base
abbrev pub has_base : Option Found → ℕ → Bool
has_base None base = false
has_base (Some f) base = f.base == base

-- whether a kept object has the base
abbrev pub is_base_of : (ℕ → Option Found) → ℕ → Bool
is_base_of kept base = has_base (kept base) base

-- a link stays if its holder and the object that it names do
abbrev pub stays : (ℕ → Option Found) → Link → Bool
stays kept l = is_kept_at kept l.address && is_base_of kept l.base

-- its word becomes 0 if its holder stays and the object that it names does not
abbrev pub is_cleared : (ℕ → Option Found) → Link → Bool
is_cleared kept l = is_kept_at kept l.address && not (is_base_of kept l.base)

-- Nothing but words has changed.
pub record IsBesideWords (old new : Store) : Type 0 where
  pub free : new.free ≡ old.free
  pub states : new.states ≡ old.states
  pub pending : new.pending ≡ old.pending
  pub size : length new.words ≡ length old.words

-- the word of the link is 0, if it is to become so, and nothing else has changed
pub record ClearsWords (kept : ℕ → Option Found) (l : Link) (old new : Store) : Type 0 where
  pub beside : IsBesideWords old new
  pub words : (k : ℕ) → slice_index new.words k ≡ (if ((word_index l.address == k) && is_cleared kept l) then 0 else slice_index old.words k)

-- whether the word of this index is that of a link that has to become 0
abbrev pub clears : (ℕ → Option Found) → List Link → ℕ → Bool
clears kept row k = list_any (λ l. (word_index l.address == k) && is_cleared kept l) row

-- the words of the links that are to become 0 are 0, and nothing else has changed
pub record TakesAlong (kept : ℕ → Option Found) (row : List Link) (old new : Store) : Type 0 where
  pub beside : IsBesideWords old new
  pub words : (k : ℕ) → slice_index new.words k ≡ (if clears kept row k then 0 else slice_index old.words k)
