use Rattle.marker.proofs.Beside.{still_here}
use Rattle.object_space.proofs.space.ObjectSpace.retrace.Goals as goal

pub retrace-page-requires-clause-still : goal.retrace-page-requires-clause-still
retrace-page-requires-clause-still c page first = still_here _ _ _ page c.new-reader.ensures.moments
