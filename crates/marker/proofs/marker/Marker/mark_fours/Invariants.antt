use Rattle.std.proofs.Common.{◌*◌, length}
use Rattle.words.specs.declared.limits.TheConstants.{PAGE_BYTES}
use Rattle.block_map.specs.FoundIn.{found_in}
use Rattle.marker.specs.Marking.{AreMarksObjects}
use Rattle.marker.specs.Growth.{MarksFirst, TellsFirst}
use Rattle.marker.proofs.marker.Marker.mark_fours.Given as goal

abbrev pub invariant-loop-first : goal.invariant-loop-first
invariant-loop-first l = record {
  marks : MarksFirst (found_in l.map) l.initial.self l.initial.words l.words l.self;
  stray : TellsFirst (found_in l.map) (PAGE_BYTES * length l.map) l.initial.words l.words l.stray;
  objects : AreMarksObjects (found_in l.map) l.self;
}

abbrev pub decreases-loop-first : goal.decreases-loop-first
decreases-loop-first l = length l.words
