-- The part of an object that stands between two addresses, in numbers.
use Rattle.std.proofs.Common.{◌≡◌, ℕ, ◌+◌, ◌-◌, ◌*◌, ◌/◌, ◌%◌, ◌<◌, ◌≤◌, Option, min, arith}
use Rattle.words.specs.declared.limits.TheConstants.{GRANULE_BYTES, MOST_PAGES, WORD_BYTES}
use Rattle.block_map.specs.declared.found.Found.{Found}
use Rattle.block_map.specs.Objects.{IsMap}
use Rattle.block_map.specs.Walks.{IsNextObject}
use Rattle.marker.specs.Parts.{HasPart}

-- n words of an object of len words at this base, from its word `first` on, are those from the address `low` up to `stop`
pub record IsPart (low high base len stop first n : ℕ) : Type 0 where
  pub further : low < stop
  pub inside : stop ≤ base + WORD_BYTES * len
  pub within : stop ≤ high
  pub aligned : stop % WORD_BYTES ≡ 0
  pub fits : first + n ≤ len
  pub reaches : (i : ℕ) → low ≤ base + WORD_BYTES * i → first ≤ i
  pub back : (i : ℕ) → first ≤ i → low ≤ base + WORD_BYTES * i
  pub ends : stop ≡ base + WORD_BYTES * (first + n)

-- the address r is one of the object's between the two
pub part_is : (low high base len r stop first n : ℕ) → low % WORD_BYTES ≡ 0 → high % WORD_BYTES ≡ 0 → base % GRANULE_BYTES ≡ 0 → low ≤ r → r < high → base ≤ r → r < base + WORD_BYTES * len
    → stop ≡ min (base + WORD_BYTES * len) high → first ≡ (low - base) / WORD_BYTES → n ≡ (stop - base) / WORD_BYTES - first → IsPart low high base len stop first n
part_is low high base len r stop first n a b c d e f g s k m = record {
  further = omega arith;
  inside = omega arith;
  within = omega arith;
  aligned = omega arith;
  fits = omega arith;
  reaches = λ i le. omega arith;
  back = λ i le. omega arith;
  ends = omega arith;
}

-- the next object between two addresses has a part between them
pub next_has_part : (pages : ℕ) (found : ℕ → Option Found) → IsMap pages found → pages ≤ MOST_PAGES → (low high : ℕ) (f : Found) → IsNextObject found low high f → low % WORD_BYTES ≡ 0 → high % WORD_BYTES ≡ 0
    → HasPart low high f
next_has_part pages found map few low high f next a b = record {
  low_aligned = a;
  high_aligned = b;
  pages = pages;
  few = few;
  placed = map.placed next.at f next.reads;
  at = next.at;
  from = next.after;
  below = next.below;
  inside = map.reads next.at f next.reads;
}
