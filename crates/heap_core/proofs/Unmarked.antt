-- No mark is past the pages that may have an object.
use Rattle.std.proofs.Common.{◌≡◌, ℕ, ◌*◌, ◌<◌, Bool, true, false, get_or, Option, Some, refl, arith}
use Rattle.words.specs.declared.limits.TheConstants.{PAGE_GRANULES}
use Rattle.words.specs.Bits.{IsEmptyFrom}
use Rattle.words.specs.Layout.{page_of, granule}
use Rattle.block_map.specs.declared.found.Found.{Found}
use Rattle.marker.specs.Marking.{Marking, AreMarksObjects, IsObjectGranule}

no_bit : (b : Bool) → (b ≡ true → ⊥) → b ≡ false
no_bit false un = refl
no_bit true un = absurd (un refl)

pub unmarked_past : (found : ℕ → Option Found) (m : Marking) (used : ℕ) → AreMarksObjects found m → ((w : ℕ) (f : Found) → found w ≡ Some f → page_of w < used) → IsEmptyFrom m.marks (PAGE_GRANULES * used)
unmarked_past found m used objects below k past inside = no_bit (get_or m.marks k false) (λ has.
    let at : IsObjectGranule found k = objects k has in
    let lt : page_of at.object.base < used = below at.object.base at.object at.is in
    let first : granule at.object.base ≡ k = at.first in
    absurd (omega (arith, lt, first, past)))
