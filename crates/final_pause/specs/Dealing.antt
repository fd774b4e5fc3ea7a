-- The numbers by which entries and dirty pages are dealt.
use Rattle.std.specs.Prelude.{◌≡◌, ℕ, ◌<◌, Bool, List, length, slice_index_or}
use Rattle.words.specs.Bits.{members_between}
use Rattle.marker.specs.declared.entry.Entry.{Entry}

-- how many members a row has before this one
abbrev pub rank : List Bool → ℕ → ℕ
rank row q = members_between row 0 q

-- the entry stands at this place of the list
pub record IsAt (list : List Entry) (i : ℕ) (entry : Entry) : Type 0 where
  pub inside : i < length list
  pub value : (d : Entry) → slice_index_or list i d ≡ entry
