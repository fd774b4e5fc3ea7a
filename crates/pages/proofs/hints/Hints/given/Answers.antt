use Rattle.pages.proofs.Searches.{hints_given}
use Rattle.pages.proofs.hints.Hints.given.Goals as goal

pub returns : goal.returns
returns c old new are filled = rw c.min-self.ensures (rw c.min-self-2.ensures (rw c.saturating_sub.ensures (hints_given _ _ _ _ _ are filled)))
