-- The pages of a large request.
use Rattle.std.proofs.Common.{◌≡◌, ℕ, ◌*◌, ◌<◌, ◌≤◌, Some, arith}
use Rattle.std.specs.Int.{div_ceil}
use Rattle.words.specs.declared.limits.TheConstants.{PAGE_WORDS, MOST_REQUEST_WORDS}
use Rattle.words.specs.declared.class.Placement.{Placement}
use Rattle.words.specs.Placing.{placement_of}
use Rattle.words.proofs.Placements.{placement_has}
use Rattle.object_space.specs.Rooms.{IsRequest}

-- where a request goes is of a fit size
pub sized : (limit n : ℕ) (placement : Placement) → limit ≤ MOST_REQUEST_WORDS → placement_of limit n ≡ Some placement → IsRequest placement
sized limit n placement bound is =
    placement_has IsRequest limit n placement is (λ class size holds. tt)
    (λ more most. let some : 0 < div_ceil n PAGE_WORDS = omega arith in let few : PAGE_WORDS * div_ceil n PAGE_WORDS ≤ MOST_REQUEST_WORDS = omega (arith, bound, most) in (some, few))
