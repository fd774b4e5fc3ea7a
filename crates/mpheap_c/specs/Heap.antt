-- C's struct of a heap.
use Rattle.std.specs.Prelude.{Option}
use base.Fml.{Fml}
use denote.RawPtr.{Ptr}
use Rattle.std.specs.Global.{Global}
use Rattle.heap_core.specs.contracts.heap.Core.{the_row as core_row}
use Rattle.mpheap_c.specs.Handle.{owns_at}

-- nothing while it is closed, and else the core behind its pointer, with the right to free it
abbrev pub core_owns : Global → Ptr → Option core_row.Denot → Fml
core_owns = owns_at core_row
