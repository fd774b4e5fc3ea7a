use Rattle.heap_spec.specs.Steps.{Acts}
use Rattle.plain_heap.proofs.plain.PlainHeap.mutator_answer.Goals as goal

pub returns-in-Detach : goal.returns-in-Detach
returns-in-Detach c s h slot = rw c.in-Detach.is (_, Acts.detached)

pub returns-in-Set : goal.returns-in-Set
returns-in-Set c s h slot = rw c.in-Set.is (_, Acts.set)

pub returns-in-Copy : goal.returns-in-Copy
returns-in-Copy c s h slot = rw c.in-Copy.is (_, Acts.copied)

pub returns-in-Add : goal.returns-in-Add
returns-in-Add c s h slot = rw c.in-Add.is (_, Acts.added)

pub returns-in-Sub : goal.returns-in-Sub
returns-in-Sub c s h slot = rw c.in-Sub.is (_, Acts.subtracted)

pub returns-in-Get : goal.returns-in-Get
returns-in-Get c s h slot = rw (c.in-Get.is, c.word.ensures) (s, Acts.got)

pub returns-in-Push : goal.returns-in-Push
returns-in-Push c s h slot = rw c.in-Push.is (c.push_answer.ensures _ _ s h slot)

pub returns-in-Pop : goal.returns-in-Pop
returns-in-Pop c s h slot = rw c.in-Pop.is (c.pop_answer.ensures _ _ s h slot)

pub returns-in-Load : goal.returns-in-Load
returns-in-Load c s h slot = rw c.in-Load.is (c.load_answer.ensures _ s h slot)

pub returns-in-Store : goal.returns-in-Store
returns-in-Store c s h slot = rw c.in-Store.is (c.store_answer.ensures _ s h slot)

pub returns-in-Alloc : goal.returns-in-Alloc
returns-in-Alloc c s h slot = rw c.in-Alloc.is (c.alloc_answer.ensures _ _ s h slot)

pub returns-in-Free : goal.returns-in-Free
returns-in-Free c s h slot = rw c.in-Free.is (c.free_answer.ensures s h slot)

pub returns-in-Base : goal.returns-in-Base
returns-in-Base c s h slot = rw c.in-Base.is (c.base_answer.ensures _ s h slot)

pub returns-in-Size : goal.returns-in-Size
returns-in-Size c s h slot = rw c.in-Size.is (c.size_answer.ensures s h slot)

pub returns-in-GlobalGet : goal.returns-in-GlobalGet
returns-in-GlobalGet c s h slot = rw c.in-GlobalGet.is (c.global_answer.ensures _ _ s h slot)

pub returns-in-GlobalPut : goal.returns-in-GlobalPut
returns-in-GlobalPut c s h slot = rw c.in-GlobalPut.is (_, Acts.global_put)

pub returns-in-Link : goal.returns-in-Link
returns-in-Link c s h slot = rw c.in-Link.is (c.link_answer.ensures s h slot)

pub returns-in-Unlink : goal.returns-in-Unlink
returns-in-Unlink c s h slot = rw c.in-Unlink.is (c.unlink_answer.ensures s h slot)
