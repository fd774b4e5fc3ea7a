use Rattle.shared.proofs.heap.SharedHeap.detach.Goals as goal

pub returns : goal.returns
returns g c = (c.depart.result, c.depart.ensures)
