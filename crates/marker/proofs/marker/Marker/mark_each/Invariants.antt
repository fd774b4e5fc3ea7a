use Rattle.std.proofs.Common.{◌*◌, length}
use Rattle.words.specs.declared.limits.TheConstants.{PAGE_BYTES}
use Rattle.block_map.specs.FoundIn.{found_in}
use Rattle.marker.specs.Marking.{AreMarksObjects}
use Rattle.marker.specs.Growth.{MarksWords, TellsStray}
use Rattle.marker.proofs.marker.Marker.mark_each.Given as goal

abbrev pub invariant-loop-word : goal.invariant-loop-word
invariant-loop-word l = record {
  marks : MarksWords (found_in l.map) l.initial.self l.yielded l.self;
  stray : TellsStray (found_in l.map) (PAGE_BYTES * length l.map) l.yielded l.stray;
  objects : AreMarksObjects (found_in l.map) l.self;
}
