use Rattle.std.proofs.Common.{◌≡◌}
use Rattle.block_map.specs.FoundIn.{found_in}
use Rattle.marker.specs.Work.{cost}
use Rattle.final_pause.proofs.Closing.{Closes}
use Rattle.final_pause.proofs.alone.close_marks.Given as goal

abbrev pub invariant-loop : goal.invariant-loop
invariant-loop l = record {
  closes : Closes (found_in l.map) l.fn.reader.words l.roots l.fn.reader.reads l.fn.marker l.reader.reads l.marker;
  words : l.reader.words ≡ l.fn.reader.words;
  moments : l.reader.moments ≡ l.fn.reader.moments;
}

abbrev pub decreases-loop : goal.decreases-loop
decreases-loop l = cost (found_in l.map) l.marker
