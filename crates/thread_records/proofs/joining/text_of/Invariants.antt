use Rattle.std.proofs.Common.{◌≡◌, take}
use Rattle.std.specs.Prelude.{map, string_bytes}
use Rattle.scripts.specs.Turns.{text_of as lines_text}
use Rattle.thread_records.proofs.joining.text_of.Given as goal

-- the lines so far
abbrev pub invariant-loop-line : goal.invariant-loop-line
invariant-loop-line l = string_bytes l.text ≡ lines_text (map string_bytes (take l.line-index l.lines))
