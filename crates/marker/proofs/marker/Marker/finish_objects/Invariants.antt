use Rattle.std.proofs.Common.{◌≡◌, ℕ, ◌+◌, ◌*◌, ◌≤◌, ◌++◌, List, length}
use Rattle.std.specs.Prelude.{drop}
use Rattle.words.specs.declared.limits.TheConstants.{MARK_STACK_ENTRIES, PAGE_GRANULES}
use Rattle.block_map.specs.FoundIn.{found_in}
use Rattle.marker.specs.declared.entry.Entry.{Entry}
use Rattle.marker.specs.Marking.{with_stack, AreMarksObjects}
use Rattle.marker.specs.Entries.{AreUnreadFrom, TakesWhole}
use Rattle.marker.specs.Begun.{AreBegun, entries_begun, words_begun}
use Rattle.marker.proofs.marker.Marker.finish_objects.Given as goal

abbrev pub invariant-loop-k : goal.invariant-loop-k
invariant-loop-k l = record {
  takes : (upper : List Entry) × (l.self.stack ≡ l.initial.self.stack ++ upper) × TakesWhole (found_in l.map) l.initial.reader.moments (with_stack l.initial.self (l.initial.self.stack ++ entries_begun l.begun.items)) l.read (with_stack l.self (l.initial.self.stack ++ entries_begun (drop l.k l.begun.items) ++ upper));
  begun : AreBegun (length l.map) (found_in l.map) l.self l.begun.items;
  pages : length l.self.dirty ≡ length l.map;
  size : length l.self.marks ≡ PAGE_GRANULES * length l.map;
  room : length l.self.stack + length (drop l.k l.begun.items) + words_begun (drop l.k l.begun.items) ≤ MARK_STACK_ENTRIES;
  all : l.read + words_begun (drop l.k l.begun.items) ≡ words_begun l.begun.items;
  known : (n : ℕ) → AreUnreadFrom (found_in l.map) l.initial.self n l.initial.self.stack → AreUnreadFrom (found_in l.map) l.self n l.self.stack;
  words : l.reader.words ≡ l.initial.reader.words;
  moments : l.reader.moments ≡ l.initial.reader.moments;
  reads : l.reader.reads + l.k ≡ l.initial.reader.reads + l.read;
  objects : AreMarksObjects (found_in l.map) l.self;
}
