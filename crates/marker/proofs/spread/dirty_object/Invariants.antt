use Rattle.marker.specs.Growth.{IsDirtied}
use Rattle.marker.proofs.spread.dirty_object.Given as goal

abbrev pub invariant-loop-page : goal.invariant-loop-page
invariant-loop-page l = IsDirtied l.initial.dirty l.dirty l.initial.page l.page
