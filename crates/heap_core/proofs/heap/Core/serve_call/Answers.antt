use Rattle.heap_core.proofs.heap.Core.serve_call.Goals as goal

pub returns-in-Detach : goal.returns-in-Detach
returns-in-Detach c = rw (c.in-Detach.is, c.done.ensures) c.detach.ensures

pub returns-in-Set : goal.returns-in-Set
returns-in-Set c = rw (c.in-Set.is, c.done-in-Set.ensures) c.set.ensures

pub returns-in-Copy : goal.returns-in-Copy
returns-in-Copy c = rw (c.in-Copy.is, c.done-in-Copy.ensures) c.copy.ensures

pub returns-in-Add : goal.returns-in-Add
returns-in-Add c = rw (c.in-Add.is, c.done-in-Add.ensures) c.add.ensures

pub returns-in-Sub : goal.returns-in-Sub
returns-in-Sub c = rw (c.in-Sub.is, c.done-in-Sub.ensures) c.sub.ensures

pub returns-in-Get : goal.returns-in-Get
returns-in-Get c = rw (c.in-Get.is, c.word.ensures) c.get.ensures

pub returns-in-Push : goal.returns-in-Push
returns-in-Push c = rw (c.in-Push.is, c.done-in-Push.ensures) c.push.ensures

pub returns-in-Pop : goal.returns-in-Pop
returns-in-Pop c = rw (c.in-Pop.is, c.word-in-Pop.ensures) c.pop.ensures

pub returns-in-Load : goal.returns-in-Load
returns-in-Load c = rw (c.in-Load.is, c.word-in-Load.ensures) c.load.ensures

pub returns-in-Store : goal.returns-in-Store
returns-in-Store c = rw (c.in-Store.is, c.done-in-Store.ensures) c.store.ensures

pub returns-in-Alloc : goal.returns-in-Alloc
returns-in-Alloc c = rw (c.in-Alloc.is, c.done-in-Alloc.ensures) c.alloc.ensures

pub returns-in-Free : goal.returns-in-Free
returns-in-Free c = rw (c.in-Free.is, c.done-in-Free.ensures) c.free.ensures

pub returns-in-Base : goal.returns-in-Base
returns-in-Base c = rw (c.in-Base.is, c.word-in-Base.ensures) c.base.ensures

pub returns-in-Size : goal.returns-in-Size
returns-in-Size c = rw (c.in-Size.is, c.count.ensures) c.size.ensures

pub returns-in-GlobalGet : goal.returns-in-GlobalGet
returns-in-GlobalGet c = rw (c.in-GlobalGet.is, c.word-in-GlobalGet.ensures) c.gget.ensures

pub returns-in-GlobalPut : goal.returns-in-GlobalPut
returns-in-GlobalPut c = rw (c.in-GlobalPut.is, c.done-in-GlobalPut.ensures) c.gput.ensures

pub returns-in-Link : goal.returns-in-Link
returns-in-Link c = rw (c.in-Link.is, c.done-in-Link.ensures) c.link.ensures

pub returns-in-Unlink : goal.returns-in-Unlink
returns-in-Unlink c = rw (c.in-Unlink.is, c.count-in-Unlink.ensures) c.unlink.ensures
