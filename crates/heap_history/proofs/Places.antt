-- A place holds what was asked for.
use Rattle.std.proofs.Common.{◌≡◌, ℕ, ◌*◌, ◌≤◌, arith}
use Rattle.std.specs.Prelude.{Some}
use Rattle.std.specs.Int.{div_ceil}
use Rattle.words.specs.declared.limits.TheConstants.{PAGE_WORDS}
use Rattle.words.specs.declared.class.Placement.{Placement}
use Rattle.words.specs.Placing.{placement_of}
use Rattle.words.proofs.Placements.{placement_has}
use Rattle.heap_spec.specs.Room.{length_of}

pub place_holds : (limit n : ℕ) (placement : Placement) → placement_of limit n ≡ Some placement → n ≤ length_of placement
place_holds limit n placement e =
    placement_has (λ p. n ≤ length_of p) limit n placement e (λ class is holds. holds) (λ more few. let holds : n ≤ PAGE_WORDS * div_ceil n PAGE_WORDS = omega arith in holds)
