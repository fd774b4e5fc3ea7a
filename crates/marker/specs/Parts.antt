-- The part of an object that stands between two addresses.
use Rattle.std.specs.Prelude.{◌≡◌, ℕ, ◌+◌, ◌*◌, ◌%◌, ◌<◌, ◌≤◌}
use Rattle.words.specs.declared.limits.TheConstants.{MOST_PAGES, WORD_BYTES}
use Rattle.block_map.specs.declared.found.Found.{Found}
use Rattle.block_map.specs.Objects.{IsInside, IsPlaced}
use Rattle.marker.specs.declared.part.Part.{Part}
use Rattle.marker.specs.Marking.{word_address}

-- two addresses of words, and an object of a heap that has an address between them
pub record HasPart (low high : ℕ) (f : Found) : Type 0 where
  pub low_aligned : low % WORD_BYTES ≡ 0
  pub high_aligned : high % WORD_BYTES ≡ 0
  pub pages : ℕ
  pub few : pages ≤ MOST_PAGES
  pub placed : IsPlaced pages f
  pub at : ℕ
  pub from : low ≤ at
  pub below : at < high
  pub inside : IsInside at f

-- the words of an object that stand between two addresses, up to the object's end or the second address
pub record IsPartBetween (low high : ℕ) (f : Found) (part : Part) : Type 0 where
  pub fits : part.first + part.count ≤ f.len
  pub reaches : (i : ℕ) → low ≤ word_address f i → part.first ≤ i
  pub back : (i : ℕ) → part.first ≤ i → low ≤ word_address f i
  pub ends : part.stop ≡ word_address f (part.first + part.count)
  pub further : low < part.stop
  pub inside : part.stop ≤ f.base + WORD_BYTES * f.len
  pub within : part.stop ≤ high
  pub aligned : part.stop % WORD_BYTES ≡ 0
