use Rattle.std.proofs.Common.{◌≡◌, length}
use Rattle.block_map.specs.FoundIn.{found_in}
use Rattle.marker.specs.Marking.{AreMarksObjects}
use Rattle.bench.proofs.heap.mark_in_steps.Given as goal

abbrev pub invariant-loop : goal.invariant-loop
invariant-loop l = record {
  pages : length l.marker.dirty ≡ length l.map;
  objects : AreMarksObjects (found_in l.map) l.marker;
}
