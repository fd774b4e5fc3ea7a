use Rattle.std.proofs.Common.{length}
use denote.Shadow.{shadow}
use denote.Text.{Utf8}
use Rattle.written_runs.proofs.Judged.{IsUpTo}
use Rattle.written_runs.proofs.verdict.explain.Given as goal

-- the lines before the rest led the replayer to a run
abbrev pub invariant-loop-rest : goal.invariant-loop-rest
invariant-loop-rest l = shadow (Utf8 l.rest) × IsUpTo l.places l.pages l.text l.rest l.number l.told l.replayer

abbrev pub decreases-loop-rest : goal.decreases-loop-rest
decreases-loop-rest l = length l.rest
