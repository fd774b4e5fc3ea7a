use Rattle.std.proofs.Common.{◌≡◌, ◌∷◌, []}
use Rattle.block_map.specs.FoundIn.{found_in}
use Rattle.marker.specs.Work.{cost}
use Rattle.final_pause.proofs.Closing.{Closes}
use Rattle.final_pause.proofs.before.mark_before_helpers.Given as goal

abbrev pub invariant-loop-more : goal.invariant-loop-more
invariant-loop-more l = record {
  closes : Closes (found_in l.graph.map.now) l.graph.memory.now l.graph.roots.now 0 l.fn.marker l.reader.reads l.marker;
  words : l.reader.words ≡ l.graph.memory.now;
  one : l.reader.moments ≡ l.reader.words ∷ [];
}

abbrev pub decreases-loop-more : goal.decreases-loop-more
decreases-loop-more l = cost (found_in l.graph.map.now) l.marker
