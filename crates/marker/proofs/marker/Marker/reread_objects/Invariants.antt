use Rattle.std.proofs.Common.{◌≡◌, ◌+◌, ◌-◌, ◌*◌, ◌%◌, ◌≤◌}
use Rattle.words.specs.declared.limits.TheConstants.{WORD_BYTES}
use Rattle.words.specs.Layout.{page_start}
use Rattle.block_map.specs.FoundIn.{found_in}
use Rattle.marker.specs.Marking.{AreMarksObjects}
use Rattle.marker.specs.Retracing.{Rereads}
use Rattle.marker.proofs.marker.Marker.reread_objects.Given as goal

abbrev pub invariant-loop-found : goal.invariant-loop-found
invariant-loop-found l = record {
  rereads : Rereads (found_in l.map) l.initial.reader.words (page_start l.page) l.address l.initial.self l.self;
  from : page_start l.page ≤ l.address;
  within : l.address ≤ page_start (l.page + 1);
  aligned : l.address % WORD_BYTES ≡ 0;
  words : l.reader.words ≡ l.initial.reader.words;
  moments : l.reader.moments ≡ l.initial.reader.moments;
  reads : WORD_BYTES * l.reader.reads + page_start l.page ≤ WORD_BYTES * l.initial.reader.reads + l.address;
  objects : AreMarksObjects (found_in l.map) l.self;
}

abbrev pub decreases-loop-found : goal.decreases-loop-found
decreases-loop-found l = page_start (l.page + 1) - l.address
