use Rattle.std.proofs.Common.{◌≡◌, ◌+◌, ◌-◌, ◌≤◌, length}
use Rattle.block_map.specs.FoundIn.{found_in}
use Rattle.marker.specs.Marking.{AreMarksObjects}
use Rattle.marker.specs.Entries.{AreUnreadFrom, TakesWhole}
use Rattle.marker.proofs.marker.Marker.read_wholes.Given as goal

abbrev pub invariant-loop : goal.invariant-loop
invariant-loop l = record {
  takes : TakesWhole (found_in l.map) l.initial.reader.moments l.initial.self (l.most - l.left) l.self;
  known : AreUnreadFrom (found_in l.map) l.self l.known l.self.stack;
  pages : length l.self.dirty ≡ length l.map;
  within : l.left ≤ l.most;
  words : l.reader.words ≡ l.initial.reader.words;
  moments : l.reader.moments ≡ l.initial.reader.moments;
  reads : l.reader.reads + l.left ≡ l.initial.reader.reads + l.most;
  objects : AreMarksObjects (found_in l.map) l.self;
}

abbrev pub decreases-loop : goal.decreases-loop
decreases-loop l = l.left
