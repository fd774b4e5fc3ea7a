use Rattle.std.proofs.Common.{◌≤◌}
use Rattle.block_map.specs.FoundIn.{found_in}
use Rattle.marker.specs.Entries.{AreUnreadFrom}
use Rattle.marker.proofs.marker.Marker.look_below.Given as goal

abbrev pub invariant-loop : goal.invariant-loop
invariant-loop l = record {
  known : AreUnreadFrom (found_in l.map) l.self l.lowest l.self.stack;
  lower : l.lowest ≤ l.known;
}
