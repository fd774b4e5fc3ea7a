use Rattle.replay.specs.Printed.{SaysOf}
use Rattle.replay.proofs.printing.print_path.Given as goal

-- what was said so far
abbrev pub invariant-loop-at : goal.invariant-loop-at
invariant-loop-at g l = SaysOf l.way.line (g.W.Sink.written l.initial.out) (g.W.Sink.written l.out)
