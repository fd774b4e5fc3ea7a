use Rattle.pages.proofs.RunStarts.{IsPassed}
use Rattle.pages.proofs.starts.next_pair.Given as goal

abbrev pub invariant-loop-j : goal.invariant-loop-j
invariant-loop-j l = IsPassed l.words l.low l.j
