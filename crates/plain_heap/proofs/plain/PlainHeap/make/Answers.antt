use Rattle.plain_heap.proofs.Answering.{made}
use Rattle.plain_heap.proofs.plain.PlainHeap.make.Goals as goal

pub returns-in-Detach-clause-made : goal.returns-in-Detach-clause-made
returns-in-Detach-clause-made c by = rw c.in-Detach.is (made _ _ _ _ _ c.detach.ensures.step)

pub returns-in-Set-clause-made : goal.returns-in-Set-clause-made
returns-in-Set-clause-made c by = rw c.in-Set.is (made _ _ _ _ _ c.set.ensures.step)

pub returns-in-Copy-clause-made : goal.returns-in-Copy-clause-made
returns-in-Copy-clause-made c by = rw c.in-Copy.is (made _ _ _ _ _ c.copy.ensures.step)

pub returns-in-Add-clause-made : goal.returns-in-Add-clause-made
returns-in-Add-clause-made c by = rw c.in-Add.is (made _ _ _ _ _ c.add.ensures.step)

pub returns-in-Sub-clause-made : goal.returns-in-Sub-clause-made
returns-in-Sub-clause-made c by = rw c.in-Sub.is (made _ _ _ _ _ c.sub.ensures.step)

pub returns-in-Get-clause-made : goal.returns-in-Get-clause-made
returns-in-Get-clause-made c by = rw c.in-Get.is (made _ _ _ _ _ c.get.ensures)

pub returns-in-Push-clause-made : goal.returns-in-Push-clause-made
returns-in-Push-clause-made c by = rw c.in-Push.is (made _ _ _ _ _ c.push.ensures.step)

pub returns-in-Pop-clause-made : goal.returns-in-Pop-clause-made
returns-in-Pop-clause-made c by = rw c.in-Pop.is (made _ _ _ _ _ c.pop.ensures.step)

pub returns-in-Load-clause-made : goal.returns-in-Load-clause-made
returns-in-Load-clause-made c by = rw c.in-Load.is (made _ _ _ _ _ c.load.ensures.step)

pub returns-in-Store-clause-made : goal.returns-in-Store-clause-made
returns-in-Store-clause-made c by = rw c.in-Store.is (made _ _ _ _ _ c.store.ensures.step)

pub returns-in-Alloc-clause-made : goal.returns-in-Alloc-clause-made
returns-in-Alloc-clause-made c by = rw c.in-Alloc.is (made _ _ _ _ _ (c.alloc.ensures.step (by _ _ _ c.in-Alloc.is)))

pub returns-in-Free-clause-made : goal.returns-in-Free-clause-made
returns-in-Free-clause-made c by = rw c.in-Free.is (made _ _ _ _ _ c.free.ensures.step)

pub returns-in-Base-clause-made : goal.returns-in-Base-clause-made
returns-in-Base-clause-made c by = rw c.in-Base.is (made _ _ _ _ _ c.base.ensures.step)

pub returns-in-Size-clause-made : goal.returns-in-Size-clause-made
returns-in-Size-clause-made c by = rw c.in-Size.is (made _ _ _ _ _ c.size.ensures)

pub returns-in-GlobalGet-clause-made : goal.returns-in-GlobalGet-clause-made
returns-in-GlobalGet-clause-made c by = rw c.in-GlobalGet.is (made _ _ _ _ _ c.gget.ensures.step)

pub returns-in-GlobalPut-clause-made : goal.returns-in-GlobalPut-clause-made
returns-in-GlobalPut-clause-made c by = rw c.in-GlobalPut.is (made _ _ _ _ _ c.gput.ensures.step)

pub returns-in-Link-clause-made : goal.returns-in-Link-clause-made
returns-in-Link-clause-made c by = rw c.in-Link.is (made _ _ _ _ _ c.link.ensures.step)

pub returns-in-Unlink-clause-made : goal.returns-in-Unlink-clause-made
returns-in-Unlink-clause-made c by = rw c.in-Unlink.is (made _ _ _ _ _ c.unlink.ensures.step)
