use Rattle.std.specs.Prelude.{flat_map, take}
use Rattle.heap_spec.specs.Heap.{words_of_slot}
use Rattle.roots.specs.Finding.{AreNotInto}
use Rattle.roots.proofs.finding.slots_into.Given as goal

-- so far
abbrev pub invariant-loop-number : goal.invariant-loop-number
invariant-loop-number l = AreNotInto (flat_map words_of_slot (take l.number l.mutators)) l.base l.length
