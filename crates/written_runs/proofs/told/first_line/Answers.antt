use Rattle.written_runs.proofs.Judged.{cut_line, last_line}
use Rattle.written_runs.proofs.told.first_line.Goals as goal

pub returns-in-Some-clause-lines : goal.returns-in-Some-clause-lines
returns-in-Some-clause-lines c = cut_line _ (c.in-Some.line, c.in-Some.behind) (rw c.in-Some.is at c.split_once.ensures.cases)

pub returns-in-None-clause-lines : goal.returns-in-None-clause-lines
returns-in-None-clause-lines c = last_line _ c.requires (rw c.in-None.is at c.split_once.ensures.cases)
