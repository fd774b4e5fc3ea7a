use Rattle.heap_spec.proofs.Objects.{one_read}
use Rattle.heap_spec.proofs.laws.points_into_at_most_one.Goals as goal

pub returns : goal.returns
returns c = one_read
