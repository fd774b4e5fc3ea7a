use Rattle.shared.proofs.heap.SharedHeap.collect.Goals as goal

pub unreachable-requires : goal.unreachable-requires
unreachable-requires g c =
    let st = c.object-object.ensures.stands in
    c.in_default.not-Count _ (c.act.ensures.step st.state st.stood_for).1.happens.takes.number
