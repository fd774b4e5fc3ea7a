use Rattle.std.proofs.Common.{◌≡◌}
use Rattle.scripts.specs.Reading.{left_of}
use Rattle.workloads.proofs.ReadLines.{IsUpTo}
use Rattle.workloads.proofs.reading.read_lines.Given as goal

abbrev pub invariant-loop-number : goal.invariant-loop-number
invariant-loop-number g l = record {
  read : IsUpTo l.number l.workload (left_of l.fn.buffer (g.R.Source.remaining l.fn.reader)) (left_of l.buffer (g.R.Source.remaining l.reader));
  faults : g.R.Source.faults l.reader ≡ g.R.Source.faults l.fn.reader;
}
