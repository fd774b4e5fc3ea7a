-- What a handle that C keeps owns.
use Rattle.std.specs.Prelude.{◌≡◌, Option, Some, None}
use base.Fml.{Fml, ftrue}
use denote.RawPtr.{Ptr}
use denote.RattleType.{RattleType}
use Rattle.std.specs.Box.Ownership.{box_owns}
use Rattle.std.specs.Global.{Global}
use Rattle.std_heap.specs.contracts.GlobalAllocator.TheImpl.{ghosts}

-- nothing while it is closed, and else the value behind its pointer, with the right to free it
abbrev pub owns_at : (R : RattleType) → Global → Ptr → Option R.Denot → Fml
owns_at R alloc at None = ftrue
owns_at R alloc at (Some value) = box_owns (ghosts.dealloc_token alloc) R at value

-- there is a value
abbrev pub IsOpen : {X : Type 0} → Option X → Type 0
IsOpen {X} value = (x : X) × (value ≡ Some x)
