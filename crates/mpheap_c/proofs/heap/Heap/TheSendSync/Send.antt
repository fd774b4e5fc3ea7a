-- A handle may go to another thread, since its core may.
use denote.Struct.Struct.{exits_of}
use denote.Struct.Owning.{shape, fields, to}
use denote.Param.Send.{IsSend, AllSend, owning_send, struct_send, sendable}
use Rattle.std_alloc.proofs.SendSync.{quiet}
use Rattle.std_heap.proofs.Global.TheSendSync as allocator
use Rattle.heap_core.specs.contracts.heap.Core as Core
use Rattle.heap_core.proofs.heap.Core.TheSendSync.{the_send as core}
use Rattle.mpheap_c.specs.contracts.heap.Heap.{the_row, the_type}
use Rattle.mpheap_c.proofs.Crosses.{owns-keyless}

pub send : IsSend the_row
send =
    let all : AllSend (fields the_type) = (search sendable, (allocator.the_field_send, tt)) in
    owning_send the_type all (λ h. owns-keyless Core.the_row core h.alloc h.at h.core)
    (λ k. quiet (to the_type) (exits_of k (fields the_type)) ((struct_send (shape the_type) all).leaving k))
