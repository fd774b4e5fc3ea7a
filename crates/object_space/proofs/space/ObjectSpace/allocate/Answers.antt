use Rattle.std.proofs.Common.{inr, ◌∙◌}
use Rattle.object_space.proofs.space.ObjectSpace.allocate.Goals as goal

pub returns-clause-places : goal.returns-clause-places
returns-clause-places c = rw c.in-Small.is (record { ready = c.ready_page.new.self; sweeps = c.ready_page.ensures.sweeps _; room = c.take_cell.ensures.room; gains = c.take_cell.ensures.gains })

pub returns-clause-cuts : goal.returns-clause-cuts
returns-clause-cuts c = inr (record {
  free = c.take_cell.ensures.free ∙ c.ready_page.ensures.leaves.free;
  pending = c.take_cell.ensures.gains.pending ∙ c.ready_page.ensures.leaves.pending;
})
