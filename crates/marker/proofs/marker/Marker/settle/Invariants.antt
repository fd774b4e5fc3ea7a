use Rattle.std.proofs.Common.{length}
use Rattle.block_map.specs.FoundIn.{found_in}
use Rattle.marker.proofs.Settling.{Drops}
use Rattle.marker.proofs.marker.Marker.settle.Given as goal

abbrev pub invariant-loop-found : goal.invariant-loop-found
invariant-loop-found l = Drops (found_in l.map) l.initial.self l.self

abbrev pub decreases-loop-found : goal.decreases-loop-found
decreases-loop-found l = length l.self.stack
