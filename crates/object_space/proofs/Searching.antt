-- What a search for a place finds.
use Rattle.std.proofs.Common.{◌≡◌, ℕ, Bool, List, Option, Some, None, sym, subst}
use Rattle.std.specs.Prelude.{MatchOption, IfSome, IfNone}
use Rattle.words.specs.declared.class.Kind.{Kind}
use Rattle.words.specs.declared.class.Placement.{Placement}
use Rattle.object_space.specs.Store.{Store}
use Rattle.object_space.specs.Rooms.{HasRoomAt, HasNoRoom}
use Rattle.object_space.specs.Sweeps.{Allocates, FindsNoPlace, Gains, Sweeps}
use Rattle.lazy_sweep.proofs.Swept.{sweeps_more}

-- a place was looked for once pages were swept
pub finds_place : (old ready new : Store) (marks : List Bool) (placement : Placement) (kind : Kind) (base : Option ℕ) → Sweeps old marks ready
    → IfSome base (λ b. HasRoomAt ready placement kind b) → IfSome base (λ b. Gains ready placement kind b new) → IfNone base (HasNoRoom ready placement kind × (new ≡ ready))
    → MatchOption base (FindsNoPlace old marks placement kind new) (λ b. Allocates old marks placement kind b new)
finds_place old ready new marks placement kind None sweeps room gains none =
    subst (λ (t : Store). FindsNoPlace old marks placement kind t) (sym none.1) (record { sweeps = sweeps; none = none.0 })
finds_place old ready new marks placement kind (Some b) sweeps room gains none = record { ready = ready; sweeps = sweeps; room = room; gains = gains }

-- and again once more pages were swept
pub allocates_after : (old mid new : Store) (marks : List Bool) (placement : Placement) (kind : Kind) (base : ℕ) → Sweeps old marks mid → Allocates mid marks placement kind base new → Allocates old marks placement kind base new
allocates_after old mid new marks placement kind base sweeps a = record { ready = a.ready; sweeps = sweeps_more old marks mid a.ready sweeps a.sweeps; room = a.room; gains = a.gains }

pub no_place_after : (old mid new : Store) (marks : List Bool) (placement : Placement) (kind : Kind) → Sweeps old marks mid → FindsNoPlace mid marks placement kind new → FindsNoPlace old marks placement kind new
no_place_after old mid new marks placement kind sweeps a = record { sweeps = sweeps_more old marks mid new sweeps a.sweeps; none = a.none }
