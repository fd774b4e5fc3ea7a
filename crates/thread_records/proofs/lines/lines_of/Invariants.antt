use Rattle.std.proofs.Common.{◌≡◌, take}
use Rattle.std.specs.Prelude.{map, string_bytes}
use Rattle.words.specs.declared.limits.TheConstants.{FIRST_ADDRESS}
use Rattle.heap_spec.specs.Runs.{Run, opening_start}
use Rattle.replayer.specs.ReplayerContents.{Follows}
use Rattle.thread_records.specs.Records.{AreLines}
use Rattle.thread_records.proofs.lines.lines_of.Given as goal

-- so far
abbrev pub invariant-loop-entry : goal.invariant-loop-entry
invariant-loop-entry l = (run : Run) × AreLines (opening_start l.pages) (take l.entry-index l.entries) (map string_bytes l.lines.items) run × Follows l.replayer (opening_start l.pages) run × (l.replayer.heap.origin ≡ FIRST_ADDRESS)
