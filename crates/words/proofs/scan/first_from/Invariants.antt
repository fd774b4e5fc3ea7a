use Rattle.words.proofs.Scans.{IsScanned}
use Rattle.words.proofs.scan.first_from.Given as goal

abbrev pub invariant-loop-j : goal.invariant-loop-j
invariant-loop-j l = IsScanned l.words l.value l.low l.j l.from
