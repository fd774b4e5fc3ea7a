use Rattle.std.proofs.Common.{◌≡◌, take}
use Rattle.std.specs.Io.KnownBytes.{Appends}
use Rattle.workloads.specs.Printing.{replies_text}
use Rattle.workloads.proofs.replies.print_lines.Given as goal

abbrev pub invariant-loop-reply : goal.invariant-loop-reply
invariant-loop-reply g l = record {
  wrote : Appends (g.W.Sink.written l.fn.writer) (g.W.Sink.written l.writer) (replies_text l.pages (take l.reply-index l.replies));
  faults : g.W.Sink.faults l.writer ≡ g.W.Sink.faults l.fn.writer;
}
