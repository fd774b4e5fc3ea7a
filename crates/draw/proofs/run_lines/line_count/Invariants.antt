use Rattle.std.proofs.Common.{◌≡◌, ◌+◌, ◌≤◌, length}
use denote.Text.{Utf8}
use denote.Shadow.{shadow}
use Rattle.scripts.specs.Lines.{lines_of}
use Rattle.draw.proofs.run_lines.line_count.Given as goal

-- the lines before the rest are counted
abbrev pub invariant-loop-rest : goal.invariant-loop-rest
invariant-loop-rest l = record {
  utf8 : shadow (Utf8 l.rest);
  counted : l.count + length (lines_of l.rest) ≡ length (lines_of l.text);
  few : l.count + length l.rest ≤ length l.text;
}

abbrev pub decreases-loop-rest : goal.decreases-loop-rest
decreases-loop-rest l = length l.rest
