use Rattle.std.proofs.Common.{◌≡◌, ◌≤◌, length, take}
use denote.Text.{Utf8}
use denote.Shadow.{shadow}
use Rattle.scripts.specs.Lines.{lines_of}
use Rattle.written_runs.specs.Told.{told_lines}
use Rattle.draw.proofs.Traces.{IsPast}
use Rattle.draw.proofs.run_lines.told_among.Given as goal

-- so many lines are passed, and what they tell is counted
abbrev pub invariant-loop-rest : goal.invariant-loop-rest
invariant-loop-rest l = record {
  utf8 : shadow (Utf8 l.rest);
  past : IsPast l.text l.rest l.number;
  counted : l.told ≡ length (told_lines (take l.number (lines_of l.text)));
  most : l.number ≤ l.most;
  few : l.told ≤ l.number;
}

abbrev pub decreases-loop-rest : goal.decreases-loop-rest
decreases-loop-rest l = length l.rest
