use Rattle.written_runs.proofs.Unwritten.{read_step}
use Rattle.written_runs.proofs.line.Line.step.Goals as goal

pub returns : goal.returns
returns c = λ places line read. read_step places line _ _ _ (c.hint-words.ensures places) read
