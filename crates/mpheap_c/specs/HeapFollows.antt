-- C's struct of a heap after its handle or its core was lent.
use Rattle.std.specs.Prelude.{Some}
use base.Fml.{Fml}
use denote.Ref.{MutBor}
use denote.Follow.{follows}
use Rattle.heap_core.specs.contracts.heap.Core.{the_row as core_row}
use Rattle.mpheap_c.specs.declared.handle.Handle.{Handle}
use Rattle.mpheap_c.specs.contracts.handle.Handle.{the_row as handle_row}
use Rattle.mpheap_c.specs.declared.heap.Heap.{Heap}
use Rattle.mpheap_c.specs.contracts.heap.Heap.{the_row as heap_row}

-- the struct that is this handle
abbrev pub of_handle : Handle core_row.Denot → Heap
of_handle w = record { at = w.at; alloc = w.alloc; core = w.value }

-- once the borrow r ends, the struct behind h is the handle that was last written through r
abbrev pub heap_follows_handle : MutBor Heap → MutBor (Handle core_row.Denot) → Fml
heap_follows_handle h r = follows heap_row (handle_row core_row) h.ghost_name r.ghost_name of_handle

-- the struct with this core
abbrev pub with_core : Heap → core_row.Denot → Heap
with_core h w = record { at = h.at; alloc = h.alloc; core = Some w }

-- once the borrow r ends, the struct behind h has the core that was last written through r
abbrev pub heap_follows : MutBor Heap → MutBor core_row.Denot → Fml
heap_follows h r = follows heap_row core_row h.ghost_name r.ghost_name (with_core h.now)
