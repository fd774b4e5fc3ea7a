use Rattle.std.proofs.Common.{◌≡◌, ◌*◌, ◌≤◌, length, take}
use Rattle.std.specs.List.{flat_map}
use Rattle.std.specs.Vec.{vec_capacity}
use Rattle.heap_spec.specs.Heap.{words_of_slot}
use Rattle.roots.specs.declared.root_words.TheConstants.{ROOT_WORDS}
use Rattle.roots.proofs.root_words.write_slots.Given as goal

abbrev pub invariant-loop-slot : goal.invariant-loop-slot
invariant-loop-slot l = record { items : l.into.items ≡ flat_map words_of_slot (take l.slot-index l.mutators); room : length l.into.items ≤ 272 * l.slot-index; capacity : ROOT_WORDS ≤ vec_capacity l.into }
