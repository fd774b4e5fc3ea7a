use Rattle.std.proofs.Common.{◌≡◌, ◌≤◌, ◌+◌, ◌*◌, ◌∷◌, ◌++◌, length, map, take}
use Rattle.std.specs.Prelude.{decimal}
use Rattle.std.specs.List.{join_with_byte}
use Rattle.workloads.proofs.written_commands.put_words.Given as goal

abbrev pub invariant-loop-number : goal.invariant-loop-number
invariant-loop-number l = record {
  text : l.line.bytes ≡ l.fn.line.bytes ++ join_with_byte 32 (l.word ∷ map decimal (take l.number-index l.numbers));
  room : length l.line.bytes ≤ length l.fn.line.bytes + length l.word + 21 * l.number-index;
}
