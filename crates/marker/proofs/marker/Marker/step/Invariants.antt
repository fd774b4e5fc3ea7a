use Rattle.std.proofs.Common.{◌≡◌, ◌+◌, ◌≤◌}
use Rattle.block_map.specs.FoundIn.{found_in}
use Rattle.marker.specs.Marking.{entries, AreMarksObjects}
use Rattle.marker.specs.Work.{cost}
use Rattle.marker.specs.Entries.{AreUnreadFrom, Takes}
use Rattle.marker.proofs.marker.Marker.step.Given as goal

abbrev pub invariant-loop-found : goal.invariant-loop-found
invariant-loop-found l = record {
  takes : Takes (found_in l.map) l.initial.reader.moments l.initial.self l.read l.self;
  known : AreUnreadFrom (found_in l.map) l.self l.known (entries l.self);
  within : l.read ≤ l.budget;
  words : l.reader.words ≡ l.initial.reader.words;
  moments : l.reader.moments ≡ l.initial.reader.moments;
  reads : l.reader.reads ≡ l.initial.reader.reads + l.read;
  objects : AreMarksObjects (found_in l.map) l.self;
}

abbrev pub decreases-loop-found : goal.decreases-loop-found
decreases-loop-found l = cost (found_in l.map) l.self
