use Rattle.bench.proofs.heap.mark_in_pause.Goals as goal

pub close_marks_with-requires-clause-invariant : goal.close_marks_with-requires-clause-invariant
close_marks_with-requires-clause-invariant g c κs within = c.begin.ensures.invariant _

pub close_marks-requires-clause-invariant : goal.close_marks-requires-clause-invariant
close_marks-requires-clause-invariant g c = c.begin.ensures.invariant _
