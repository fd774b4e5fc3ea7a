-- What an open handle owns says the same to every thread, where its value may go to any.
use Rattle.std.specs.Prelude.{Option, Some, None}
use mir.Raw.{raw}
use base.Shift.{Keyless}
use denote.Memory.{lone}
use denote.Param.Send.{IsSend}
use denote.RattleType.{RattleType}
use denote.RawPtr.{Ptr}
use Rattle.std.proofs.Crossing as allocator
use Rattle.std.specs.Global.{Global}
use Rattle.std_alloc.proofs.SendSync.{lies}
use Rattle.mpheap_c.specs.Handle.{owns_at}

pub owns-keyless : (R : RattleType) → IsSend R → (alloc : Global) (at : Ptr) (value : Option R.Denot) → Keyless (owns_at R alloc at value)
owns-keyless R s alloc at None = tt
owns-keyless R s alloc at (Some value) = (lies R s at value, allocator.frees.frees alloc (raw (lone R.mir)) at)
