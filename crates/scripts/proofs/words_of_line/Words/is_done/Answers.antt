use Rattle.scripts.proofs.Splitting.{words_nonempty}
use Rattle.scripts.proofs.words_of_line.Words.is_done.Goals as goal

pub returns-in-Some : goal.returns-in-Some
returns-in-Some c = rw (← c.self.view_is, c.in-Some.is) (words_nonempty c.in-Some.field-0.now)
