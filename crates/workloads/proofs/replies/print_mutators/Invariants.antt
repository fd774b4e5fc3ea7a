use Rattle.std.proofs.Common.{◌≡◌, take}
use Rattle.std.specs.Io.KnownBytes.{Appends}
use Rattle.workloads.specs.Printing.{mutators_text}
use Rattle.workloads.proofs.replies.print_mutators.Given as goal

abbrev pub invariant-loop-i : goal.invariant-loop-i
invariant-loop-i g l = record {
  wrote : Appends (g.W.Sink.written l.fn.writer) (g.W.Sink.written l.writer) (mutators_text l.pages 0 (take l.i l.mutators));
  faults : g.W.Sink.faults l.writer ≡ g.W.Sink.faults l.fn.writer;
}
