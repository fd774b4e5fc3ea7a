use Rattle.pages.proofs.Searches.{start_passed}
use Rattle.pages.proofs.hints.Hints.start.Goals as goal

pub returns-then-n-self : goal.returns-then-n-self
returns-then-n-self c row are = rw c.max.ensures (start_passed _ _ _ c.if-n-self.true are)
