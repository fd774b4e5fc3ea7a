-- A handle after its value was lent.
use Rattle.std.specs.Prelude.{Some}
use base.Fml.{Fml}
use denote.RattleType.{RattleType}
use denote.Ref.{MutBor}
use denote.Follow.{follows}
use Rattle.mpheap_c.specs.declared.handle.Handle.{Handle}
use Rattle.mpheap_c.specs.contracts.handle.Handle.{the_row as handle_row}

-- the handle with this value
abbrev pub with_value : {X : Type 0} → Handle X → X → Handle X
with_value h w = record { at = h.at; alloc = h.alloc; value = Some w }

-- once the borrow r ends, the handle behind h has the value that was last written through r
abbrev pub handle_follows : (R : RattleType) → MutBor (Handle R.Denot) → MutBor R.Denot → Fml
handle_follows R h r = follows (handle_row R) R h.ghost_name r.ghost_name (with_value h.now)
