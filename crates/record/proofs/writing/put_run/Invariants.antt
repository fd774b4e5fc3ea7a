use Rattle.std.proofs.Common.{length}
use denote.Text.{Utf8}
use denote.Shadow.{shadow}
use Rattle.record.proofs.Runs.{IsRecordedTo}
use Rattle.record.proofs.writing.put_run.Given as goal

-- the lines before the rest are recorded
abbrev pub invariant-loop-rest : goal.invariant-loop-rest
invariant-loop-rest g l = record {
  utf8 : shadow (Utf8 l.rest);
  recorded : IsRecordedTo l.initial.recorder l.script l.rest l.recorder (g.W.Sink.written l.initial.out) (g.W.Sink.written l.out);
}

abbrev pub decreases-loop-rest : goal.decreases-loop-rest
decreases-loop-rest g l = length l.rest
