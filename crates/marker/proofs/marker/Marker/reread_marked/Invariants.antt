use Rattle.std.proofs.Common.{◌≡◌, ℕ, ◌+◌, ◌*◌}
use Rattle.words.specs.Layout.{page_start}
use Rattle.marker.proofs.Rests.{IsRest}
use Rattle.block_map.specs.FoundIn.{found_in}
use Rattle.marker.specs.Marking.{AreMarksObjects}
use Rattle.marker.specs.Retracing.{RereadsObjects}
use Rattle.marker.proofs.marker.Marker.reread_marked.Given as goal

abbrev pub invariant-loop-rest : goal.invariant-loop-rest
invariant-loop-rest l = record {
  from : ℕ;
  left : IsRest l.marks l.rest from;
  rereads : RereadsObjects (found_in l.map) l.initial.reader.words l.initial.self (page_start (l.page + 1)) (64 * l.j) (64 * l.j + from) l.initial.reader.reads l.initial.self l.reader.reads l.self;
  words : l.reader.words ≡ l.initial.reader.words;
  moments : l.reader.moments ≡ l.initial.reader.moments;
  objects : AreMarksObjects (found_in l.map) l.self;
}

abbrev pub decreases-loop-rest : goal.decreases-loop-rest
decreases-loop-rest l = l.rest
