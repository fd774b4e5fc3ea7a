use Rattle.std.proofs.Common.{◌≡◌, ◌+◌, ◌++◌, length}
use Rattle.block_map.specs.FoundIn.{found_in}
use Rattle.marker.specs.Marking.{with_stack}
use Rattle.marker.specs.Entries.{AreUnreadFrom}
use Rattle.marker.specs.Begun.{AreBegun, entries_begun, words_begun}
use Rattle.marker.proofs.marker.Marker.begin_objects.Given as goal

abbrev pub invariant-loop : goal.invariant-loop
invariant-loop l = record {
  count : length l.begun.items ≡ l.counter;
  begun : AreBegun (length l.map) (found_in l.map) l.self l.begun.items;
  taken : l.initial.self ≡ with_stack l.self (l.self.stack ++ entries_begun l.begun.items);
  known : AreUnreadFrom (found_in l.map) l.self l.known l.self.stack;
  left : words_begun l.begun.items + l.left ≡ l.most;
}
