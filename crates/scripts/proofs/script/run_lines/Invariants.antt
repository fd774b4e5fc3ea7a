use Rattle.std.proofs.Common.{◌≡◌}
use Rattle.scripts.specs.Reading.{left_of}
use Rattle.scripts.proofs.Turns.{IsUpTo}
use Rattle.scripts.proofs.script.run_lines.Given as goal

abbrev pub invariant-loop-number : goal.invariant-loop-number
invariant-loop-number g l = record {
  ran : IsUpTo l.pages l.number l.core (left_of l.fn.buffer (g.R.Source.remaining l.fn.reader)) (left_of l.buffer (g.R.Source.remaining l.reader)) (g.W.Sink.written l.fn.writer) (g.W.Sink.written l.writer);
  reader : g.R.Source.faults l.reader ≡ g.R.Source.faults l.fn.reader;
  writer : g.W.Sink.faults l.writer ≡ g.W.Sink.faults l.fn.writer;
}
