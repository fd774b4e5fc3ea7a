use Rattle.std.proofs.Common.{◌≤◌, length, take}
use denote.Text.{Utf8}
use denote.Shadow.{shadow}
use Rattle.scripts.specs.Lines.{lines_of}
use Rattle.written_runs.specs.Told.{told_lines}
use Rattle.draw.specs.RunTrace.{PutsRecords}
use Rattle.draw.proofs.Traces.{IsPast}
use Rattle.draw.proofs.run_records.put_records.Given as goal

-- so many lines are passed, and what they tell is written
abbrev pub invariant-loop-alloc : goal.invariant-loop-alloc
invariant-loop-alloc g l = record {
  utf8 : shadow (Utf8 l.rest);
  past : IsPast l.text l.rest l.number;
  puts : PutsRecords l.initial.tracer (told_lines (take l.number (lines_of l.text))) l.tracer (g.W.Sink.written l.initial.out) (g.W.Sink.written l.out);
  most : l.number ≤ l.most;
}

abbrev pub decreases-loop-alloc : goal.decreases-loop-alloc
decreases-loop-alloc g l = length l.rest
