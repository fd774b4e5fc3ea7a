use Rattle.std.proofs.Common.{◌≡◌, ◌+◌, ◌*◌}
use Rattle.block_map.specs.FoundIn.{found_in}
use Rattle.marker.specs.Marking.{AreMarksObjects}
use Rattle.words.specs.declared.limits.TheConstants.{PAGE_GRANULES}
use Rattle.words.specs.Layout.{page_start}
use Rattle.marker.specs.Retracing.{RereadsObjects}
use Rattle.marker.proofs.marker.Marker.reread_cells.Given as goal

abbrev pub invariant-loop-j : goal.invariant-loop-j
invariant-loop-j l = record {
  rereads : RereadsObjects (found_in l.map) l.initial.reader.words l.initial.self (page_start (l.page + 1)) (PAGE_GRANULES * l.page) (64 * l.j) l.initial.reader.reads l.initial.self l.reader.reads l.self;
  words : l.reader.words ≡ l.initial.reader.words;
  moments : l.reader.moments ≡ l.initial.reader.moments;
  objects : AreMarksObjects (found_in l.map) l.self;
}
