-- What the placements of requests are.
use Rattle.std.proofs.Common.{◌≡◌, ℕ, ◌+◌, ◌*◌, ◌/◌, ◌%◌, ◌≤◌, ◌<◌, arith}
use Rattle.std.specs.Prelude.{Some}
use Rattle.std.specs.Int.{div_ceil}
use Rattle.std.proofs.Math.Nat.{le-div_iff_mul-le}
use Rattle.words.specs.declared.class.Placement.{Placement}
use Rattle.words.specs.declared.class.Placement.TheVariants.{Small}
use Rattle.words.specs.declared.limits.TheConstants.{GRANULE_WORDS, PAGE_WORDS}
use Rattle.words.specs.Placing.{placement_of}
use Rattle.words.specs.Classes.{IsSizeClass}
use Rattle.words.proofs.Classes.{class_even, class_few, class_some}
use Rattle.words.proofs.Placements.{placement_has}
use Rattle.plain_heap.specs.Places.{IsSized}

-- a cell that fits on a page is below the number of cells
pub cell_below : (length cell : ℕ) → 0 < length → length * (cell + 1) ≤ PAGE_WORDS → cell < PAGE_WORDS / length
cell_below length cell some fits = let h : cell + 1 ≤ PAGE_WORDS / length = (le-div_iff_mul-le {k = length} {x = cell + 1} {y = PAGE_WORDS} some).1 (omega arith) in omega arith

-- a cell below the number of cells fits on a page
pub cell_fits : (length cell : ℕ) → 0 < length → cell < PAGE_WORDS / length → length * (cell + 1) ≤ PAGE_WORDS
cell_fits length cell some below = let h = (le-div_iff_mul-le {k = length} {x = cell + 1} {y = PAGE_WORDS} some).0 (omega arith) in omega (arith, h)

sized_class : (class : ℕ) → IsSizeClass class → IsSized (Small class)
sized_class class is = let some = class_some class is in let even : class % GRANULE_WORDS ≡ 0 = class_even class is in (omega (arith, some), class_few class is, even)

-- a request that goes somewhere has a size that is allowed there
pub sized : (limit n : ℕ) (placement : Placement) → placement_of limit n ≡ Some placement → IsSized placement
sized limit n placement e = placement_has IsSized limit n placement e (λ class is holds. sized_class class is) (λ more few. let some : 1 ≤ div_ceil n PAGE_WORDS = omega arith in some)
