-- What stands behind a handle of shares.
use Rattle.std.proofs.Common.{◌≡◌, true, false, Option, Some, None, ap, ◌∙◌, refl, sym}
use Rattle.std.proofs.lemmas.Bool.{false≢true}
use Rattle.std.specs.Option.{is_some}
use Rattle.heap_core.specs.Sharing.{Sharing}
use Rattle.mpheap_c.specs.declared.crew.Place.{Place}
use Rattle.mpheap_c.specs.Sharing.{Stands, IsEmptyPlace}

-- these shares, if they are in the place that was lent
pub stands : (place : Option Place) (p : Place) (s : Sharing) → place ≡ Some p → p.shares ≡ Some s → Stands place s
stands place p s at is = at ∙ ap (λ (x : Option Sharing). Some (record { shares = x })) is

-- and none
pub is_empty : (place : Option Place) (p : Place) → place ≡ Some p → p.shares ≡ None → IsEmptyPlace place
is_empty place p at is = at ∙ ap (λ (x : Option Sharing). Some (record { shares = x })) is

-- some are there
pub some_of : (x : Option Sharing) → is_some x ≡ true → (s : Sharing) × (x ≡ Some s)
some_of (Some s) e = (s, refl)
some_of None e = absurd (false≢true e)

pub none_of : (x : Option Sharing) → is_some x ≡ false → x ≡ None
none_of None e = refl
none_of (Some s) e = absurd (false≢true (sym e))
