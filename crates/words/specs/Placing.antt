-- Where a request goes.
use Rattle.std.specs.Prelude.{ℕ, Option, Some, None, nat_le, nat_lt, ◌==◌, if◌then◌else◌, find, ◌||◌}
use Rattle.std.specs.Int.{div_ceil}
use Rattle.std.specs.Option.{option_map}
use Rattle.words.specs.declared.class.TheConstants.{CLASSES}
use Rattle.words.specs.declared.limits.TheConstants.{PAGE_WORDS, MAX_SMALL_WORDS}
use Rattle.words.specs.declared.class.Placement.{Placement}
use Rattle.words.specs.declared.class.Placement.TheVariants.{Small, Large}

-- A request of no words, or of more than the heap's limit, goes nowhere. A small one goes to the least size class that
-- holds it, and any other onto as few pages as hold it.
abbrev pub placement_of : ℕ → ℕ → Option Placement
placement_of limit n =
    if (n == 0) || nat_lt limit n then None
    else (if nat_le n MAX_SMALL_WORDS then option_map Small (find (λ c. nat_le n c) CLASSES)
    else Some (Large (div_ceil n PAGE_WORDS)))
